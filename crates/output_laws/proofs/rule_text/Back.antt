-- A line of the dump of rules is read as the edit that adds its rule.
use Rattle.std.proofs.Common.{◌≡◌, ℕ, suc, ◌+◌, ◌<◌, ◌≤◌, ◌^◌, true, List, [], ◌∷◌, ◌++◌, length, refl, sym, ap, ◌∙◌, subst, arith, append_assoc, length-append, Option, Some, None, Ok}
use Rattle.std.specs.Prelude.{Result, codes}
use Rattle.std.specs.List.{position_or_len}
use Rattle.std.specs.Fmt.{decimal}
use Rattle.spec_tables.specs.declared.edit_word.EditWord.{EditWord}
use Rattle.spec_tables.specs.declared.edit_word.EditWord.TheVariants.{Add}
use Rattle.spec_tables.specs.Rules.{Match, Rule}
use Rattle.spec_tables.specs.Edits.{Edit}
use Rattle.spec_flow_text.specs.Characters.{comma, space, number_sign}
use Rattle.spec_flow_text.specs.Numbers.{where_found}
use Rattle.spec_flow_text.specs.NumbersPrinted.{hexadecimal}
use Rattle.spec_flow_text.specs.declared.fault.TextFault.{TextFault}
use Rattle.spec_flow_text.specs.declared.part.Part.{Part}
use Rattle.spec_flow_text.specs.Names.{meaning_of}
use Rattle.spec_flow_text.specs.Items.{Sofar, Stated, is_separator, is_white, words, read_items, nothing_stated}
use Rattle.spec_flow_text.specs.Matches.{MatchText, uncommented, read_match}
use Rattle.spec_flow_text.specs.Actions.{read_actions}
use Rattle.spec_flow_text.specs.Printed.{shown, match_printed, actions_printed}
use Rattle.spec_flow_text.specs.Lines.{edit_words, first_word, end_of, edit_from, edit_in}
use Rattle.spec_run.specs.declared.rule_counts.RuleCounts.{RuleCounts}
use Rattle.spec_run.specs.Rules.{after_comma, counts_text}
use Rattle.text_laws.proofs.CommentLaws.{match_of_text, read_match-text, edit-comment}
use Rattle.text_laws.proofs.PlainValues.{IsPlain, value_plain, decimal_plain}
use Rattle.text_laws.proofs.ValuesBack.{ReadValues}
use Rattle.text_laws.proofs.matches.WordsBack.{all_parts, text_of}
use Rattle.text_laws.proofs.matches.MatchesBack.{shown_readable, shown_parts}
use Rattle.text_laws.proofs.matches.LinesBack.{printed_plain}
use Rattle.text_laws.proofs.matches.FlowTexts.{flow_read}
use Rattle.output_laws.specs.Lines.{rule_text, added, IsWritable, AreCounts}
use Rattle.output_laws.proofs.rule_text.Words.{item_read, separator_read, all_shown_read, list_name, list_read}
use Rattle.output_laws.proofs.rule_text.Numbers as numbers
use Rattle.output_laws.proofs.rule_text.Numbers.{full, cookie_item, table_item, packets_item, bytes_item, priority_item}
use Rattle.output_laws.proofs.rule_text.Texts.{IsText, IsFeedless, text_append, plain_text, text_uncommented, text_ascii, text_feedless, feedless_append}

-- what stands after the priority, before a list of actions and after it
abbrev tail_of : List ℕ → List ℕ → List ℕ
tail_of matching list = after_comma matching ++ space ∷ (list_name ++ list)

-- a line, whose list of actions is this text
abbrev pub line_with : RuleCounts → Rule → List ℕ → List ℕ
line_with counts r list =
    cookie_item r.cookie ++ comma ∷ space ∷ (table_item r.table ++ comma ∷ space ∷ (packets_item counts.packets ++ comma ∷ space ∷
    (bytes_item counts.bytes ++ comma ∷ space ∷ (priority_item r.priority ++ tail_of (match_printed r.matching) list))))

-- ---- how a line is put together

abbrev comment_of : Rule → List ℕ
comment_of r = codes " rule=" ++ decimal r.number

counts_first : (counts : RuleCounts) (rest : List ℕ) → counts_text (codes ", ") counts ++ rest ≡ packets_item counts.packets ++ comma ∷ space ∷ (bytes_item counts.bytes ++ rest)
counts_first counts rest =
    ap (λ t. codes "n_packets=" ++ t) (append_assoc (decimal counts.packets) (codes ", " ++ (codes "n_bytes=" ++ decimal counts.bytes)) rest)

pub text_is : (counts : RuleCounts) (r : Rule) → rule_text counts r ≡ line_with counts r (actions_printed r.actions ++ space ∷ number_sign ∷ comment_of r)
text_is counts r =
    ap (λ t. cookie_item r.cookie ++ comma ∷ space ∷ (table_item r.table ++ comma ∷ space ∷ t))
    (counts_first counts (codes ", priority=" ++ (decimal r.priority ++ (after_comma (match_printed r.matching) ++ (codes " actions=" ++ (actions_printed r.actions ++ (codes " # rule=" ++ decimal r.number)))))))

line_longer : (counts : RuleCounts) (r : Rule) (list more : List ℕ) → line_with counts r (list ++ more) ≡ line_with counts r list ++ more
line_longer counts r list more =
    let m = match_printed r.matching in
    let last : tail_of m (list ++ more) ≡ tail_of m list ++ more = sym (append_assoc (after_comma m) (space ∷ (list_name ++ list)) more) in
    let priority : priority_item r.priority ++ tail_of m (list ++ more) ≡ (priority_item r.priority ++ tail_of m list) ++ more =
    ap (λ t. priority_item r.priority ++ t) last ∙ sym (append_assoc (priority_item r.priority) (tail_of m list) more) in
    let four = priority_item r.priority ++ tail_of m list in
    let bytes : bytes_item counts.bytes ++ comma ∷ space ∷ (priority_item r.priority ++ tail_of m (list ++ more)) ≡ (bytes_item counts.bytes ++ comma ∷ space ∷ four) ++ more =
    ap (λ t. bytes_item counts.bytes ++ comma ∷ space ∷ t) priority ∙ sym (append_assoc (bytes_item counts.bytes) (comma ∷ space ∷ four) more) in
    let three = bytes_item counts.bytes ++ comma ∷ space ∷ four in
    let packets : packets_item counts.packets ++ comma ∷ space ∷ (bytes_item counts.bytes ++ comma ∷ space ∷ (priority_item r.priority ++ tail_of m (list ++ more))) ≡ (packets_item counts.packets ++ comma ∷ space ∷ three) ++ more =
    ap (λ t. packets_item counts.packets ++ comma ∷ space ∷ t) bytes ∙ sym (append_assoc (packets_item counts.packets) (comma ∷ space ∷ three) more) in
    let two = packets_item counts.packets ++ comma ∷ space ∷ three in
    let table : table_item r.table ++ comma ∷ space ∷ (packets_item counts.packets ++ comma ∷ space ∷ (bytes_item counts.bytes ++ comma ∷ space ∷ (priority_item r.priority ++ tail_of m (list ++ more)))) ≡ (table_item r.table ++ comma ∷ space ∷ two) ++ more =
    ap (λ t. table_item r.table ++ comma ∷ space ∷ t) packets ∙ sym (append_assoc (table_item r.table) (comma ∷ space ∷ two) more) in
    ap (λ t. cookie_item r.cookie ++ comma ∷ space ∷ t) table ∙ sym (append_assoc (cookie_item r.cookie) (comma ∷ space ∷ (table_item r.table ++ comma ∷ space ∷ two)) more)

-- ---- the list of actions begins at this place

abbrev name_place : RuleCounts → Rule → ℕ
name_place counts r =
    length (cookie_item r.cookie) + length (table_item r.table) + length (packets_item counts.packets) + length (bytes_item counts.bytes)
    + length (priority_item r.priority) + length (after_comma (match_printed r.matching)) + 9

front_length : (counts : RuleCounts) (r : Rule) → length (line_with counts r []) ≡ name_place counts r + 8
front_length counts r =
    let m = match_printed r.matching in
    let last = tail_of m [] in
    let four = priority_item r.priority ++ last in
    let three = bytes_item counts.bytes ++ comma ∷ space ∷ four in
    let two = packets_item counts.packets ++ comma ∷ space ∷ three in
    let one = table_item r.table ++ comma ∷ space ∷ two in
    omega (
      arith,
      length-append (cookie_item r.cookie) (comma ∷ space ∷ one),
      length-append (table_item r.table) (comma ∷ space ∷ two),
      length-append (packets_item counts.packets) (comma ∷ space ∷ three),
      length-append (bytes_item counts.bytes) (comma ∷ space ∷ four),
      length-append (priority_item r.priority) last,
      length-append (after_comma m) (space ∷ (list_name ++ [])),
    )

-- ---- what the items state

printed_text : (m : Match) → match_printed m ≡ text_of (shown m)
unfolding match_printed
printed_text m = refl

abbrev parts_in : Match → List Part
parts_in m = all_parts (shown m)

-- what is read up to the list of actions, whose name stands at a place
abbrev listed : Sofar → ℕ → Result Stated TextFault
listed s at = Ok (record { sofar = s; list = Some (at + 1, at + 8) })

module _ (v : ReadValues) (r : Rule) (w : IsWritable r) where
  wide : (n most : ℕ) → n ≤ most → most < 2 ^ 128 → n < 2 ^ 128
  wide n most le l = omega (arith, le, l)

  priority_wide : r.priority < 2 ^ 128
  priority_wide = wide r.priority 65535 w.priority (omega arith)

  module _ (table cookie : Option ℕ) (at : ℕ) (list : List ℕ) where
    abbrev before : Sofar
    before = full table None cookie []

    abbrev after : List Part → Sofar
    after ps = full table (Some r.priority) cookie ps

    abbrev end : ℕ
    end = at + length (priority_item r.priority)

    priority_read : (sep : ℕ) (rest : List ℕ) → is_separator sep ≡ true
        → read_items Add (words is_separator true at (priority_item r.priority ++ sep ∷ rest)) before ≡ read_items Add (words is_separator true (end + 1) rest) (after [])
    priority_read sep rest ends =
        item_read Add at sep (priority_item r.priority) rest before (after []) ends (numbers.priority_there r.priority) (numbers.priority_whole v r.priority priority_wide)
        (numbers.priority_no_list at r.priority) (numbers.priority_states v at [] r.priority table cookie w.priority)

    -- a match of every packet prints nothing
    none_read : text_of (shown r.matching) ≡ [] → read_items Add (words is_separator true at (priority_item r.priority ++ space ∷ (list_name ++ list))) before ≡ listed (after (parts_in r.matching)) (end + 1)
    none_read none =
        let items = all_shown_read Add end space (shown r.matching) [] (list_name ++ list) (after []) refl (shown_readable v r.matching w.matching) (shown_parts v r.matching w.matching).0 in
        let same : end + length (text_of (shown r.matching)) + 1 ≡ end + 1 = rw none (omega arith) in
        priority_read space (list_name ++ list) refl
        ∙ sym (separator_read Add end space (list_name ++ list) (after []) refl)
        ∙ ap (λ t. read_items Add (words is_separator true end (t ++ space ∷ (list_name ++ list))) (after [])) (sym none)
        ∙ items
        ∙ ap (λ n. read_items Add (words is_separator true n (list_name ++ list)) (after (parts_in r.matching))) same
        ∙ list_read Add (end + 1) list (after (parts_in r.matching))

    some_read : (c : ℕ) (cs : List ℕ) → text_of (shown r.matching) ≡ c ∷ cs
        → read_items Add (words is_separator true at (priority_item r.priority ++ comma ∷ ((c ∷ cs) ++ space ∷ (list_name ++ list)))) before ≡ listed (after (parts_in r.matching)) (end + 1 + length (c ∷ cs) + 1)
    some_read c cs is =
        let items = all_shown_read Add (end + 1) space (shown r.matching) [] (list_name ++ list) (after []) refl (shown_readable v r.matching w.matching) (shown_parts v r.matching w.matching).0 in
        priority_read comma ((c ∷ cs) ++ space ∷ (list_name ++ list)) refl
        ∙ ap (λ t. read_items Add (words is_separator true (end + 1) (t ++ space ∷ (list_name ++ list))) (after [])) (sym is)
        ∙ items
        ∙ ap (λ t. read_items Add (words is_separator true (end + 1 + length t + 1) (list_name ++ list)) (after (parts_in r.matching))) is
        ∙ list_read Add (end + 1 + length (c ∷ cs) + 1) list (after (parts_in r.matching))

    tail_read : read_items Add (words is_separator true at (priority_item r.priority ++ tail_of (match_printed r.matching) list)) before
        ≡ listed (after (parts_in r.matching)) (end + length (after_comma (match_printed r.matching)) + 1)
    tail_read = by (match_printed r.matching) (sym (printed_text r.matching))
      where
        by : (t : List ℕ) → text_of (shown r.matching) ≡ t
            → read_items Add (words is_separator true at (priority_item r.priority ++ tail_of t list)) before ≡ listed (after (parts_in r.matching)) (end + length (after_comma t) + 1)
        by [] is =
            let same : end + 1 ≡ end + 0 + 1 = omega arith in none_read is ∙ ap (λ n. listed (after (parts_in r.matching)) n) same
        by (c ∷ cs) is =
            let same : end + 1 + length (c ∷ cs) + 1 ≡ end + length (comma ∷ c ∷ cs) + 1 = omega arith in some_read c cs is ∙ ap (λ n. listed (after (parts_in r.matching)) n) same

-- ---- the whole line

module _ (v : ReadValues) (counts : RuleCounts) (few : AreCounts counts) (r : Rule) (w : IsWritable r) (list : List ℕ) where
  cookie_wide : r.cookie < 2 ^ 128
  cookie_wide = omega (arith, w.cookie)

  table_wide : r.table < 2 ^ 128
  table_wide = omega (arith, w.table)

  abbrev stated : Sofar
  stated = full (Some r.table) (Some r.priority) (Some r.cookie) (parts_in r.matching)

  items_read : read_items Add (words is_separator true 0 (line_with counts r list)) nothing_stated ≡ listed stated (name_place counts r)
  items_read =
      let c = cookie_item r.cookie in
      let t = table_item r.table in
      let p = packets_item counts.packets in
      let b = bytes_item counts.bytes in
      let rest4 = priority_item r.priority ++ tail_of (match_printed r.matching) list in
      let rest3 = b ++ comma ∷ space ∷ rest4 in
      let rest2 = p ++ comma ∷ space ∷ rest3 in
      let rest1 = t ++ comma ∷ space ∷ rest2 in
      let s1 = full None None (Some r.cookie) [] in
      let s2 = full (Some r.table) None (Some r.cookie) [] in
      let at1 = 0 + length c + 1 + 1 in
      let at2 = at1 + length t + 1 + 1 in
      let at3 = at2 + length p + 1 + 1 in
      let at4 = at3 + length b + 1 + 1 in
      let place : at4 + length (priority_item r.priority) + length (after_comma (match_printed r.matching)) + 1 ≡ name_place counts r = omega arith in
      item_read Add 0 comma c (space ∷ rest1) nothing_stated s1 refl (numbers.cookie_there r.cookie) (numbers.cookie_whole v r.cookie cookie_wide)
      (numbers.cookie_no_list 0 r.cookie) (numbers.cookie_states v 0 [] r.cookie w.cookie)
      ∙ separator_read Add (0 + length c + 1) space rest1 s1 refl
      ∙ item_read Add at1 comma t (space ∷ rest2) s1 s2 refl (numbers.table_there r.table) (numbers.table_whole v r.table table_wide)
      (numbers.table_no_list at1 r.table) (numbers.table_states v at1 [] r.table (Some r.cookie) w.table)
      ∙ separator_read Add (at1 + length t + 1) space rest2 s2 refl
      ∙ item_read Add at2 comma p (space ∷ rest3) s2 s2 refl (numbers.packets_there counts.packets) (numbers.packets_whole v counts.packets few.packets)
      (numbers.packets_no_list at2 counts.packets) (numbers.packets_state v at2 [] counts.packets s2)
      ∙ separator_read Add (at2 + length p + 1) space rest3 s2 refl
      ∙ item_read Add at3 comma b (space ∷ rest4) s2 s2 refl (numbers.bytes_there counts.bytes) (numbers.bytes_whole v counts.bytes few.bytes)
      (numbers.bytes_no_list at3 counts.bytes) (numbers.bytes_state v at3 [] counts.bytes s2)
      ∙ separator_read Add (at3 + length b + 1) space rest4 s2 refl
      ∙ tail_read v r w (Some r.table) (Some r.cookie) at4 list
      ∙ ap (λ n. listed stated n) place

  -- the line has one line's text, without a comment
  comma_text : (text : List ℕ) → IsText text → IsText (after_comma text)
  comma_text [] h = refl
  comma_text (c ∷ cs) h = text_append (comma ∷ []) (c ∷ cs) refl h

  line_text : IsText list → IsText (line_with counts r list)
  line_text plain =
      let number : (n : ℕ) → IsText (decimal n) = λ n. plain_text (decimal n) (decimal_plain n) in
      let cookie : IsText (hexadecimal r.cookie) = plain_text (hexadecimal r.cookie) (value_plain (hexadecimal r.cookie) (v.hexadecimal_characters r.cookie cookie_wide)) in
      let m = match_printed r.matching in
      let last = text_append (after_comma m) (space ∷ (list_name ++ list)) (comma_text m (plain_text m (printed_plain v r.matching w.matching))) (text_append (codes " actions=") list refl plain) in
      let four = text_append (priority_item r.priority) (tail_of m list) (text_append (codes "priority=") (decimal r.priority) refl (number r.priority)) last in
      let three = text_append (bytes_item counts.bytes) (comma ∷ space ∷ (priority_item r.priority ++ tail_of m list)) (text_append (codes "n_bytes=") (decimal counts.bytes) refl (number counts.bytes)) (text_append (codes ", ") (priority_item r.priority ++ tail_of m list) refl four) in
      let rest3 = bytes_item counts.bytes ++ comma ∷ space ∷ (priority_item r.priority ++ tail_of m list) in
      let two = text_append (packets_item counts.packets) (comma ∷ space ∷ rest3) (text_append (codes "n_packets=") (decimal counts.packets) refl (number counts.packets)) (text_append (codes ", ") rest3 refl three) in
      let rest2 = packets_item counts.packets ++ comma ∷ space ∷ rest3 in
      let one = text_append (table_item r.table) (comma ∷ space ∷ rest2) (text_append (codes "table=") (decimal r.table) refl (number r.table)) (text_append (codes ", ") rest2 refl two) in
      let rest1 = table_item r.table ++ comma ∷ space ∷ rest2 in
      text_append (cookie_item r.cookie) (comma ∷ space ∷ rest1) (text_append (codes "cookie=") (hexadecimal r.cookie) refl cookie) (text_append (codes ", ") rest1 refl one)

  -- ---- its match

  abbrev said : MatchText
  said = record { table = Some r.table; priority = r.priority; cookie = Some r.cookie; matching = r.matching; rest = Some (name_place counts r + 8) }

  match_read : IsText list → read_match Add 0 (line_with counts r list) ≡ Ok said
  match_read plain =
      let text = line_with counts r list in
      let clean = line_text plain in
      read_match-text Add 0 text
      ∙ ap (match_of_text Add 0) (text_uncommented text clean)
      ∙ (rw (text_ascii text clean, items_read) (ap (λ m. Ok (record said { matching = m })) (shown_parts v r.matching w.matching).1))

-- ---- the edit

-- its first word is none of the words of edits
no_word : (cs : List ℕ) → meaning_of edit_words (first_word (99 ∷ cs)).text ≡ None
no_word cs = let e : 1 + position_or_len is_white cs ≡ suc (position_or_len is_white cs) = omega arith in rw e refl

by_add : (line : List ℕ) (o : Option EditWord) → o ≡ None → (at : ℕ) → where_found o (λ word. edit_from word at line) (edit_from Add 0 line) ≡ edit_from Add 0 line
by_add line o none at = rw none refl

adds : (cs : List ℕ) → uncommented (99 ∷ cs) ≡ 99 ∷ cs → edit_in (99 ∷ cs) ≡ edit_from Add 0 (99 ∷ cs)
unfolding edit_in
adds cs clean = by_add (99 ∷ cs) (meaning_of edit_words (first_word (uncommented (99 ∷ cs))).text) (ap (λ t. meaning_of edit_words (first_word t).text) clean ∙ no_word cs) (end_of (first_word (uncommented (99 ∷ cs))))

-- the line has no line feed
pub rule_feedless : (v : ReadValues) (counts : RuleCounts) (few : AreCounts counts) (r : Rule) (w : IsWritable r) → IsPlain (actions_printed r.actions) → IsFeedless (rule_text counts r)
rule_feedless v counts few r w plain =
    let list = actions_printed r.actions in
    let number = text_feedless (decimal r.number) (plain_text (decimal r.number) (decimal_plain r.number)) in
    let comment = feedless_append (codes " # rule=") (decimal r.number) refl number in
    let line = text_feedless (line_with counts r list) (line_text v counts few r w list (plain_text list plain)) in
    subst IsFeedless (sym (text_is counts r ∙ line_longer counts r list (space ∷ number_sign ∷ comment_of r)))
    (feedless_append (line_with counts r list) (space ∷ number_sign ∷ comment_of r) line comment)

module _ (v : ReadValues) (counts : RuleCounts) (few : AreCounts counts) (r : Rule) (w : IsWritable r)
    (plain : IsPlain (actions_printed r.actions))
    (back : (front : List ℕ) → uncommented front ≡ front → read_actions (length front) (front ++ actions_printed r.actions) ≡ Ok r.actions) where
  abbrev list : List ℕ
  list = actions_printed r.actions

  actions_back : read_actions (name_place counts r + 8) (line_with counts r list) ≡ Ok r.actions
  actions_back =
      let front = line_with counts r [] in
      let clean = text_uncommented front (line_text v counts few r w [] refl) in
      let read = back front clean in
      rw (front_length counts r, sym (line_longer counts r [] list)) at read

  pub line_back : edit_in (line_with counts r list) ≡ Ok (added r)
  line_back =
      let clean = text_uncommented (line_with counts r list) (line_text v counts few r w list (plain_text list plain)) in
      adds _ clean
      ∙ flow_read Add 0 (line_with counts r list) (said v counts few r w list) (name_place counts r + 8) r.actions (match_read v counts few r w list (plain_text list plain)) refl actions_back

  -- with white space and a comment after it
  pub commented_back : ((line : List ℕ) (white : ℕ) (e : Edit) → is_white white ≡ true → edit_in line ≡ Ok e → edit_in (line ++ white ∷ []) ≡ Ok e)
      → edit_in (rule_text counts r) ≡ Ok (added r)
  commented_back white_ends =
      let comment = comment_of r in
      let line = line_with counts r list in
      ap edit_in (text_is counts r ∙ line_longer counts r list (space ∷ number_sign ∷ comment) ∙ sym (append_assoc line (space ∷ []) (number_sign ∷ comment)))
      ∙ edit-comment (line ++ space ∷ []) comment
      ∙ white_ends line space (added r) refl line_back
