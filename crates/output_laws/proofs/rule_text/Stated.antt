-- Edits that were read state numbers within their ranges, and so do the rules that they make.
use Rattle.std.proofs.Common.{◌≡◌, ℕ, zero, suc, ◌+◌, ◌≤◌, Bool, true, false, if◌then◌else◌, List, [], ◌∷◌, ◌++◌, length, ◌⊎◌, inl, inr, refl, sym, ap, subst, arith, Option, Some, None, Result, Ok, Err}
use Rattle.std.specs.Prelude.{not, unwrap_or, is_some, slice_get, All}
use Rattle.std.specs.List.{list_all, list_any}
use Rattle.std.specs.Option.{ok_or}
use Rattle.std.proofs.lemmas.List.Elements.{All-head, All-tail}
use Rattle.spec_actions.specs.Sound.{last_table}
use Rattle.spec_tables.specs.declared.edit_word.EditWord.{EditWord}
use Rattle.spec_tables.specs.declared.edit_word.EditWord.TheVariants.{Add, Modify, ModifyStrict, Delete, DeleteStrict}
use Rattle.spec_tables.specs.Rules.{Rule}
use Rattle.spec_tables.specs.Edits.{Edit, rule_of, with_actions, without, modified, edited, after_edit, after_edits, is_named_by, is_reached_by}
use Rattle.spec_flow_text.specs.Characters.{equals_sign}
use Rattle.spec_flow_text.specs.Numbers.{where_found, split_once, number_upto}
use Rattle.spec_flow_text.specs.declared.fault.TextFault.{TextFault}
use Rattle.spec_flow_text.specs.declared.fault.TextFault.TheVariants as fault
use Rattle.spec_flow_text.specs.declared.shorthand.Shorthand.{Shorthand}
use Rattle.spec_flow_text.specs.declared.names.ItemName.{ItemName}
use Rattle.spec_flow_text.specs.declared.names.ItemName.TheVariants as item
use Rattle.spec_flow_text.specs.declared.part.Part.{Part}
use Rattle.spec_flow_text.specs.Names.{item_named, meaning_of, type_stated, protocol_stated}
use Rattle.spec_flow_text.specs.Values.{field_stated, vlan_stated, type_part, protocol_part}
use Rattle.spec_flow_text.specs.Items.{◌>>=◌, Word, Sofar, Stated, nothing_stated, greatest_cookie, last_priority, column, is_separator, words, unless, repeats, given, deletes, is_plain_cookie, number_once, with_part, with_protocol, with_shorthand, with_value, with_valued, with_bare, with_cut, with_item, list_start, at_word, read_items}
use Rattle.spec_flow_text.specs.Matches.{MatchText, match_text, default_priority, with_list, uncommented, ascii_from, read_match}
use Rattle.spec_flow_text.specs.Actions.{is_respellable}
use Rattle.spec_flow_text.specs.Lines.{edit_words, first_word, end_of, edit, actions_from, edit_from, edit_in}
use Rattle.table_laws.proofs.MemberLaws.{Among, Among-append, Among-filter}
use Rattle.board_laws.proofs.ListLaws.{Among-map}
use Rattle.text_laws.specs.Spelled.{are_spellable}
use Rattle.text_laws.specs.SpelledMatches.{IsSpellable}
use Rattle.text_laws.proofs.round_trips.LinesRead.{ok_chained}
use Rattle.output_laws.specs.Lines.{WasRead}

-- ---- numbers that items state

abbrev pub Within : ℕ → Option ℕ → Type 0
Within most None = Unit {0}
Within most (Some n) = n ≤ most

record InRange (s : Sofar) : Type 0 where
  table : Within last_table s.table
  priority : Within last_priority s.priority
  cookie : Within greatest_cookie s.cookie

-- a step of reading keeps them
abbrev Keeps : (Sofar → Result Sofar TextFault) → Type 0
Keeps step = (s t : Sofar) → step s ≡ Ok t → InRange s → InRange t

as_stated : (s t : Sofar) (ps : List Part) → record s { parts = ps } ≡ t → InRange s → InRange t
as_stated s t ps is r = subst InRange is (record { table = r.table; priority = r.priority; cookie = r.cookie })

part_keeps : (col : ℕ) (p : Part) → Keeps (with_part col p)
unfolding with_part
part_keeps col p s t h r = at (list_any (repeats p) s.parts) h
  where
    at : (b : Bool) → (if b then Err (fault.Repeated col) else Ok (record s { parts = s.parts ++ p ∷ [] })) ≡ Ok t → InRange t
    at true h = cc h
    at false h = as_stated s t (s.parts ++ p ∷ []) (cc h) r

value_keeps : (col value_col : ℕ) (o : Option Part) → Keeps (with_value col value_col o)
value_keeps col value_col None s t h r = cc h
value_keeps col value_col (Some p) s t h r = part_keeps col p s t h r

protocol_keeps : (col : ℕ) (o : Option ℕ) → Keeps (with_protocol col o)
protocol_keeps col None s t h r = let is : s ≡ t = cc h in subst InRange is r
protocol_keeps col (Some n) s t h r = part_keeps col (protocol_part n) s t h r

short_keeps : (col : ℕ) (short : Shorthand) → Keeps (with_shorthand col short)
unfolding with_shorthand
short_keeps col short s t h r =
    let c = ok_chained (with_part col (type_part (type_stated short)) s) (with_protocol col (protocol_stated short)) t h in
    protocol_keeps col (protocol_stated short) c.0 t c.2 (part_keeps col (type_part (type_stated short)) s c.0 c.1 r)

or_found : (o : Option ℕ) (e : TextFault) (n : ℕ) → ok_or o e ≡ Ok n → o ≡ Some n
or_found None e n h = cc h
or_found (Some m) e n h = let is : m ≡ n = cc h in ap (λ (x : ℕ). Some x) is

module _ (most_is : (most : ℕ) (text : List ℕ) (n : ℕ) → number_upto most text ≡ Some n → n ≤ most) where
  once_within : (col value_col : ℕ) (before : Option ℕ) (most : ℕ) (value : List ℕ) (n : ℕ) → number_once col value_col before most value ≡ Ok n → n ≤ most
  unfolding number_once
  once_within col value_col before most value n h =
      let fresh = ok_chained (unless (not (is_some before)) (fault.Repeated col)) _ n h in
      let there = ok_chained (given col value) _ n fresh.2 in
      most_is most value n (or_found (number_upto most value) (fault.BadValue value_col) n there.2)

  valued_keeps : (word : EditWord) (col value_col : ℕ) (name : Option ItemName) (value : List ℕ) → Keeps (with_valued word col value_col name value)
  unfolding with_valued
  valued_keeps word col value_col None value s t h r = cc h
  valued_keeps word col value_col (Some item.Unsupported) value s t h r = cc h
  valued_keeps word col value_col (Some (item.Shorthand short)) value s t h r = cc h
  valued_keeps word col value_col (Some item.Actions) value s t h r = cc h
  valued_keeps word col value_col (Some (item.Field f)) value s t h r =
      let c = ok_chained (given col value) _ t h in value_keeps col value_col (field_stated f value) s t c.2 r
  valued_keeps word col value_col (Some item.DlVlan) value s t h r =
      let c = ok_chained (given col value) _ t h in value_keeps col value_col (vlan_stated value) s t c.2 r
  valued_keeps word col value_col (Some item.Statistic) value s t h r =
      let c = ok_chained (given col value) (λ there. Ok s) t h in
      let is : s ≡ t = cc (c.2) in subst InRange is r
  valued_keeps word col value_col (Some item.Table) value s t h r =
      let c = ok_chained (number_once col value_col s.table last_table value) (λ n. Ok (record s { table = Some n })) t h in
      let is : record s { table = Some c.0 } ≡ t = cc (c.2) in
      subst InRange is (record { table = once_within col value_col s.table last_table value c.0 c.1; priority = r.priority; cookie = r.cookie })
  valued_keeps word col value_col (Some item.Priority) value s t h r =
      let c = ok_chained (number_once col value_col s.priority last_priority value) (λ n. Ok (record s { priority = Some n })) t h in
      let is : record s { priority = Some c.0 } ≡ t = cc (c.2) in
      subst InRange is (record { table = r.table; priority = once_within col value_col s.priority last_priority value c.0 c.1; cookie = r.cookie })
  valued_keeps word col value_col (Some item.Cookie) value s t h r =
      let plain = ok_chained (unless (is_plain_cookie word value) (fault.Unsupported col)) _ t h in
      let c = ok_chained (number_once col value_col s.cookie greatest_cookie value) (λ n. Ok (record s { cookie = Some n })) t plain.2 in
      let is : record s { cookie = Some c.0 } ≡ t = cc (c.2) in
      subst InRange is (record { table = r.table; priority = r.priority; cookie = once_within col value_col s.cookie greatest_cookie value c.0 c.1 })

  bare_keeps : (word : EditWord) (col : ℕ) (name : Option ItemName) → Keeps (with_bare word col name)
  unfolding with_bare
  bare_keeps word col None s t h r = valued_keeps word col col None [] s t h r
  bare_keeps word col (Some (item.Shorthand short)) s t h r = short_keeps col short s t h r
  bare_keeps word col (Some name) s t h r = valued_keeps word col col (Some name) [] s t h r

  cut_keeps : (word : EditWord) (col : ℕ) (text : List ℕ) (o : Option (List ℕ × List ℕ)) → Keeps (with_cut word col text o)
  cut_keeps word col text None s t h r = bare_keeps word col (item_named text) s t h r
  cut_keeps word col text (Some parts) s t h r = valued_keeps word col (col + length parts.0 + 1) (item_named parts.0) parts.1 s t h r

  item_keeps : (word : EditWord) (w : Word) → Keeps (with_item word w)
  unfolding with_item
  item_keeps word w s t h r = cut_keeps word (column w) w.text (split_once equals_sign w.text) s t h r

  items_keep : (word : EditWord) (ws : List Word) (s : Sofar) (t : Stated) → read_items word ws s ≡ Ok t → InRange s → InRange t.sofar
  unfolding read_items
  items_keep word [] s t h r =
      let is : record { sofar = s; list = None } ≡ t = cc h in subst (λ (x : Stated). InRange x.sofar) is r
  items_keep word (w ∷ ws) s t h r = at (list_start w) h (items_keep word ws)
    where
      at : (o : Option ℕ) → at_word w o s (with_item word w s >>= read_items word ws) ≡ Ok t
          → ((x : Sofar) (y : Stated) → read_items word ws x ≡ Ok y → InRange x → InRange y.sofar) → InRange t.sofar
      at None h others =
          let c = ok_chained (with_item word w s) (read_items word ws) t h in
          others c.0 t c.2 (item_keeps word w s c.0 c.1 r)
      at (Some rest) h others =
          let is : record { sofar = s; list = Some (column w, rest) } ≡ t = cc h in subst (λ (x : Stated). InRange x.sofar) is r

  -- ---- edits

  -- the numbers of an edit
  pub record HasNumbers (e : Edit) : Type 0 where
    pub table : Within last_table e.table
    pub priority : e.priority ≤ last_priority
    pub cookie : Within greatest_cookie e.cookie

  default_within : (o : Option ℕ) → Within last_priority o → unwrap_or o default_priority ≤ last_priority
  default_within None h = omega arith
  default_within (Some n) h = h

  listed_numbers : (word : EditWord) (end : ℕ) (s : Sofar) (list : Option (ℕ × ℕ)) (m : MatchText) → with_list word end s list ≡ Ok m → InRange s
      → Within last_table m.table × (m.priority ≤ last_priority) × Within greatest_cookie m.cookie
  listed_numbers word end s None m h r = at (deletes word) h
    where
      at : (b : Bool) → (if b then Ok (match_text s None) else Err (fault.Syntax (end + 1))) ≡ Ok m → Within last_table m.table × (m.priority ≤ last_priority) × Within greatest_cookie m.cookie
      at true h =
          let is : match_text s None ≡ m = cc h in
          subst (λ (x : MatchText). Within last_table x.table × (x.priority ≤ last_priority) × Within greatest_cookie x.cookie) is (r.table, default_within s.priority r.priority, r.cookie)
      at false h = cc h
  listed_numbers word end s (Some list) m h r = at (deletes word) h
    where
      at : (b : Bool) → (if b then Err (fault.Syntax list.0) else Ok (match_text s (Some list.1))) ≡ Ok m → Within last_table m.table × (m.priority ≤ last_priority) × Within greatest_cookie m.cookie
      at true h = cc h
      at false h =
          let is : match_text s (Some list.1) ≡ m = cc h in
          subst (λ (x : MatchText). Within last_table x.table × (x.priority ≤ last_priority) × Within greatest_cookie x.cookie) is (r.table, default_within s.priority r.priority, r.cookie)

  match_numbers : (word : EditWord) (at : ℕ) (line : List ℕ) (m : MatchText) → read_match word at line ≡ Ok m
      → Within last_table m.table × (m.priority ≤ last_priority) × Within greatest_cookie m.cookie
  unfolding read_match
  match_numbers word at line m h =
      let text = ok_chained (ascii_from at (uncommented line)) _ m h in
      let stated = ok_chained (read_items word (words is_separator true at text.0) nothing_stated) _ m text.2 in
      listed_numbers word (length (uncommented line)) stated.0.sofar stated.0.list m stated.2
      (items_keep word (words is_separator true at text.0) nothing_stated stated.0 stated.1 (record { table = tt; priority = tt; cookie = tt }))

  edit_numbers : (word : EditWord) (at : ℕ) (line : List ℕ) (e : Edit) → edit_from word at line ≡ Ok e → HasNumbers e
  unfolding edit_from
  edit_numbers word at line e h =
      let m = ok_chained (read_match word at line) _ e h in
      let actions = ok_chained (actions_from m.0.rest line) (λ actions. Ok (edit word m.0 actions)) e m.2 in
      let same : edit word m.0 actions.0 ≡ e = cc (actions.2) in
      let n = match_numbers word at line m.0 m.1 in
      subst HasNumbers same (record { table = n.0; priority = n.1; cookie = n.2 })

  pub numbers_of : (line : List ℕ) (e : Edit) → edit_in line ≡ Ok e → HasNumbers e
  unfolding edit_in
  numbers_of line e h = by_word (meaning_of edit_words (first_word (uncommented line)).text) h
    where
      by_word : (o : Option EditWord) → where_found o (λ word. edit_from word (end_of (first_word (uncommented line))) line) (edit_from Add 0 line) ≡ Ok e → HasNumbers e
      by_word None h = edit_numbers Add 0 line e h
      by_word (Some word) h = edit_numbers word (end_of (first_word (uncommented line))) line e h

  -- ---- rules

  module _ (spelled : (line : List ℕ) (e : Edit) → edit_in line ≡ Ok e → IsSpellable e.matching)
      (respelled : (line : List ℕ) (e : Edit) → edit_in line ≡ Ok e → list_all is_respellable e.actions ≡ true → are_spellable e.actions ≡ true) where
    -- a rule that can be written, where its actions can be spelled again
    pub record IsMade (r : Rule) : Type 0 where
      pub cookie : r.cookie ≤ greatest_cookie
      pub table : r.table ≤ last_table
      pub priority : r.priority ≤ last_priority
      pub matching : IsSpellable r.matching
      pub actions : list_all is_respellable r.actions ≡ true → are_spellable r.actions ≡ true

    number_or : (most : ℕ) (o : Option ℕ) (n : ℕ) → Within most o → n ≤ most → unwrap_or o n ≤ most
    number_or most None n h le = le
    number_or most (Some m) n h le = h

    added_made : (number : ℕ) (e : Edit) → WasRead e → IsMade (rule_of number e)
    added_made number e read =
        let n = numbers_of read.0 e read.1 in record {
          cookie = number_or greatest_cookie e.cookie 0 n.cookie (omega arith);
          table = number_or last_table e.table 0 n.table (omega arith);
          priority = n.priority;
          matching = spelled read.0 e read.1;
          actions = respelled read.0 e read.1;
        }

    changed_made : (e : Edit) (r : Rule) → WasRead e → IsMade r → IsMade (with_actions e r)
    changed_made e r read made =
        let n = numbers_of read.0 e read.1 in record {
          cookie = number_or greatest_cookie e.cookie r.cookie n.cookie made.cookie;
          table = made.table;
          priority = made.priority;
          matching = made.matching;
          actions = respelled read.0 e read.1;
        }

    abbrev pub AreMade : List Rule → Type 0
    AreMade rules = (r : Rule) → Among r rules → IsMade r

    without_made : (picked : Rule → Bool) (rules : List Rule) → AreMade rules → AreMade (without picked rules)
    without_made picked rules made r there = made r (Among-filter (λ x. not (picked x)) r rules there).0

    modified_made : (picked : Rule → Bool) (e : Edit) (rules : List Rule) → WasRead e → AreMade rules → AreMade (modified picked e rules)
    modified_made picked e rules read made r there =
        let from = Among-map (λ x. if picked x then with_actions e x else x) r rules there in
        subst IsMade (sym (from.2)) (at (picked from.0) from.0 (made from.0 from.1))
      where
        at : (b : Bool) (x : Rule) → IsMade x → IsMade (if b then with_actions e x else x)
        at true x m = changed_made e x read m
        at false x m = m

    edited_made : (word : EditWord) (number : ℕ) (e : Edit) (rules : List Rule) → WasRead e → AreMade rules → AreMade (edited word number e rules)
    edited_made Add number e rules read made r there = at (Among-append r (without (is_named_by e) rules) (rule_of number e ∷ []) there)
      where
        at : Among r (without (is_named_by e) rules) ⊎ Among r (rule_of number e ∷ []) → IsMade r
        at (inl old) = without_made (is_named_by e) rules made r old
        at (inr (inl is)) = subst IsMade (sym is) (added_made number e read)
        at (inr (inr none)) = absurd none
    edited_made Modify number e rules read made r there = modified_made (is_reached_by e) e rules read made r there
    edited_made ModifyStrict number e rules read made r there = modified_made (is_named_by e) e rules read made r there
    edited_made Delete number e rules read made r there = without_made (is_reached_by e) rules made r there
    edited_made DeleteStrict number e rules read made r there = without_made (is_named_by e) rules made r there

    get_read : (edits : List Edit) → All WasRead edits → (n : ℕ) (e : Edit) → slice_get edits n ≡ Some e → WasRead e
    get_read [] all n e h = cc h
    get_read (x ∷ edits) all zero e h = let is : x ≡ e = cc h in subst WasRead is (All-head WasRead x edits all)
    get_read (x ∷ edits) all (suc n) e h = get_read edits (All-tail WasRead x edits all) n e h

    pub rules_made : (edits : List Edit) → All WasRead edits → (n : ℕ) → AreMade (after_edits edits n)
    unfolding after_edits
    rules_made edits all zero r there = absurd there
    rules_made edits all (suc n) r there = at (slice_get edits n) refl there (rules_made edits all n)
      where
        at : (o : Option Edit) → slice_get edits n ≡ o → Among r (after_edit (suc n) o (after_edits edits n)) → AreMade (after_edits edits n) → IsMade r
        at None is there made = made r there
        at (Some e) is there made = edited_made e.word (suc n) e (after_edits edits n) (get_read edits all n e is) made r there
