-- A dump of rules is read as a file of edits.
use Rattle.std.proofs.Common.{◌≡◌, ℕ, zero, suc, ◌+◌, ◌<◌, ◌≤◌, Bool, true, false, List, [], ◌∷◌, ◌++◌, length, map, refl, sym, ap, ◌∙◌, arith, append_assoc, append-nil, length-append, None, Ok}
use Rattle.std.specs.Prelude.{not, ◌==◌, nat_lt, slice_index, codes, All, bytes_eq}
use Rattle.std.specs.List.{list_all, flat_map, range_with_len, position_or_len}
use Rattle.std.proofs.lemmas.Bool.{and_parts, not-true, lt-ltb}
use Rattle.std.proofs.lemmas.Bool.Decides.{nat_tests}
use Rattle.std.proofs.lemmas.List.Elements.{All-head, All-tail, All-cons}
use Rattle.std.proofs.lemmas.List.Splits.{slice_split_at}
use Rattle.std.proofs.lemmas.List.FromFn.{length-range_with_len, get_or-range_with_len}
use Rattle.spec_tables.specs.Rules.{Rule}
use Rattle.spec_tables.specs.Edits.{Edit}
use Rattle.spec_tables.specs.Bundles.{edits_through, each_alone}
use Rattle.spec_flow_text.specs.Characters.{line_feed, number_sign}
use Rattle.spec_flow_text.specs.Items.{is_white}
use Rattle.spec_flow_text.specs.Matches.{uncommented}
use Rattle.spec_flow_text.specs.Lines.{first_word, edit_in}
use Rattle.spec_board.specs.Texts.{line_of}
use Rattle.spec_run.specs.declared.rule_counts.RuleCounts.{RuleCounts}
use Rattle.spec_input.specs.Lines.{most_line_bytes, with_lines, lines_of, with_next}
use Rattle.spec_input.specs.Script.{Reading, nothing_read, most_edits, with_bundle, with_edit, with_line, script_of}
use Rattle.output_laws.specs.Lines.{rule_text, added}

-- ---- lines

feedless_all : (text : List ℕ) → list_all (λ c. not (c == line_feed)) text ≡ true → All (λ c. (c == line_feed) ≡ false) text
feedless_all [] h = λ k d within. absurd (omega (arith, within))
feedless_all (c ∷ cs) h =
    let p = and_parts (not (c == line_feed)) (list_all (λ x. not (x == line_feed)) cs) h in
    All-cons (λ x. (x == line_feed) ≡ false) c cs (not-true (c == line_feed) p.0) (feedless_all cs p.1)

abbrev pub AreFeedless : List (List ℕ) → Type 0
AreFeedless [] = Unit {0}
AreFeedless (line ∷ lines) = (list_all (λ c. not (c == line_feed)) line ≡ true) × AreFeedless lines

-- lines are cut where they were joined
pub lines_back : (lines : List (List ℕ)) → AreFeedless lines → lines_of (flat_map line_of lines) ≡ lines ++ [] ∷ []
lines_back [] h = refl
lines_back (line ∷ lines) h =
    ap lines_of (append_assoc line (line_feed ∷ []) (flat_map line_of lines))
    ∙ slice_split_at (λ c. c == line_feed) line line_feed (flat_map line_of lines) (feedless_all line h.0) refl
    ∙ ap (λ (rest : List (List ℕ)). line ∷ rest) (lines_back lines h.1)

-- ---- what was read so far

-- edits alone, each a bundle by itself
abbrev pub reading : List Edit → Reading
reading edits = record { said = record { edits = edits; bundles = each_alone edits; syncs = [] }; begun = None }

through_all : (n : ℕ) → edits_through (range_with_len 1 n) n ≡ n
through_all zero = refl
through_all (suc v) =
    let last : slice_index (range_with_len 1 (suc v)) v ≡ 1 + v = get_or-range_with_len 1 (suc v) v 0 (omega arith) in
    omega (arith, last)

-- all edits are through their bundles
pub alone_through : (edits : List Edit) → edits_through (each_alone edits) (length (each_alone edits)) ≡ length edits
alone_through edits =
    ap (edits_through (each_alone edits)) (length-range_with_len 1 (length edits)) ∙ through_all (length edits)

range_push : (a n : ℕ) → range_with_len a (n + 1) ≡ range_with_len a n ++ (a + n) ∷ []
range_push a zero = let same : a ≡ a + 0 = omega arith in ap (λ (k : ℕ). k ∷ []) same
range_push a (suc n) =
    let next : suc n + 1 ≡ suc (n + 1) = omega arith in
    let same : a + 1 + n ≡ a + suc n = omega arith in
    ap (range_with_len a) next ∙ ap (λ (ks : List ℕ). a ∷ ks) (range_push (a + 1) n ∙ ap (λ (k : ℕ). range_with_len (a + 1) n ++ k ∷ []) same)

alone_push : (edits : List Edit) (e : Edit) → each_alone (edits ++ e ∷ []) ≡ each_alone edits ++ length (edits ++ e ∷ []) ∷ []
alone_push edits e =
    let longer : length (edits ++ e ∷ []) ≡ length edits + 1 = omega (arith, length-append edits (e ∷ [])) in
    let last : 1 + length edits ≡ length (edits ++ e ∷ []) = omega (arith, longer) in
    ap (range_with_len 1) longer ∙ range_push 1 (length edits) ∙ ap (λ (k : ℕ). each_alone edits ++ k ∷ []) last

bundled : (edits : List Edit) (e : Edit) → with_bundle (record { edits = edits ++ e ∷ []; bundles = each_alone edits; syncs = [] }) ≡ (reading (edits ++ e ∷ [])).said
bundled edits e =
    let fewer : length edits < length (edits ++ e ∷ []) = omega (arith, length-append edits (e ∷ [])) in
    let through = alone_through edits in
    let more : nat_lt (edits_through (each_alone edits) (length (each_alone edits))) (length (edits ++ e ∷ [])) ≡ true = rw through (lt-ltb (length edits) (length (edits ++ e ∷ [])) fewer) in
    rw (more, alone_push edits e) refl

-- ---- one line

edit_line : (number : ℕ) (line : List ℕ) (edits : List Edit) (e : Edit) → length edits < most_edits → edit_in line ≡ Ok e → with_edit number line (reading edits) ≡ Ok (reading (edits ++ e ∷ []))
unfolding with_edit
edit_line number line edits e room read =
    rw (lt-ltb (length edits) most_edits room, read, bundled edits e) refl

-- a line that begins as those of rules do, and one that is a comment
three_more : (p : ℕ → Bool) (cs : List ℕ) → 1 + (1 + (1 + position_or_len p cs)) ≡ suc (suc (suc (position_or_len p cs)))
three_more p cs = omega arith

uncommented_front : (cs : List ℕ) → uncommented (99 ∷ 111 ∷ 111 ∷ cs) ≡ 99 ∷ 111 ∷ 111 ∷ uncommented cs
uncommented_front cs = rw (three_more (λ c. c == number_sign) cs) refl

not_sync : (cs : List ℕ) → bytes_eq (codes "sync") (first_word (99 ∷ 111 ∷ 111 ∷ cs)).text ≡ false
not_sync cs = rw (three_more is_white cs) refl

not_begin : (cs : List ℕ) → bytes_eq (codes "begin") (first_word (99 ∷ 111 ∷ 111 ∷ cs)).text ≡ false
not_begin cs = rw (three_more is_white cs) refl

not_commit : (cs : List ℕ) → bytes_eq (codes "commit") (first_word (99 ∷ 111 ∷ 111 ∷ cs)).text ≡ false
not_commit cs = rw (three_more is_white cs) refl

within : (line : List ℕ) → length line ≤ most_line_bytes → nat_lt most_line_bytes (length line) ≡ false
within line short = grind (arith, nat_tests)

front_read : (number : ℕ) (cs : List ℕ) (edits : List Edit) (e : Edit) → length (99 ∷ 111 ∷ 111 ∷ cs) ≤ most_line_bytes → length edits < most_edits
    → edit_in (99 ∷ 111 ∷ 111 ∷ cs) ≡ Ok e → with_next with_line number (99 ∷ 111 ∷ 111 ∷ cs) (reading edits) ≡ Ok (reading (edits ++ e ∷ []))
unfolding with_line
front_read number cs edits e short room read =
    rw (
      within (99 ∷ 111 ∷ 111 ∷ cs) short,
      uncommented_front cs,
      not_sync (uncommented cs),
      not_begin (uncommented cs),
      not_commit (uncommented cs),
    ) (edit_line number (99 ∷ 111 ∷ 111 ∷ cs) edits e room read)

comment_read : (number : ℕ) (cs : List ℕ) (r : Reading) → length (number_sign ∷ cs) ≤ most_line_bytes → with_next with_line number (number_sign ∷ cs) r ≡ Ok r
unfolding with_line
comment_read number cs r short = rw (within (number_sign ∷ cs) short) refl

empty_read : (number : ℕ) (r : Reading) → with_next with_line number [] r ≡ Ok r
unfolding with_line
empty_read number r = refl

-- ---- all lines

next_line : (number : ℕ) (line : List ℕ) (lines : List (List ℕ)) (r s : Reading) → with_next with_line number line r ≡ Ok s → with_lines with_line number (line ∷ lines) r ≡ with_lines with_line (number + 1) lines s
unfolding with_lines
next_line number line lines r s h = rw h refl

no_line : (number : ℕ) (r : Reading) → with_lines with_line number [] r ≡ Ok r
unfolding with_lines
no_line number r = refl

abbrev pub AreShort : List (List ℕ) → Type 0
AreShort lines = All (λ line. length line ≤ most_line_bytes) lines

module _ (counts : Rule → RuleCounts) where
  abbrev pub texts : List Rule → List (List ℕ)
  texts rules = map (λ r. rule_text (counts r) r) rules

  abbrev pub AreRead : List Rule → Type 0
  AreRead [] = Unit {0}
  AreRead (r ∷ rules) = (edit_in (rule_text (counts r) r) ≡ Ok (added r)) × AreRead rules

  pub rules_read : (number : ℕ) (rules : List Rule) (edits : List Edit) (rest : List (List ℕ)) → AreRead rules → AreShort (texts rules) → length edits + length rules ≤ most_edits
      → with_lines with_line number (texts rules ++ rest) (reading edits) ≡ with_lines with_line (number + length rules) rest (reading (edits ++ map added rules))
  rules_read number [] edits rest read short few =
      let same : number ≡ number + 0 = omega arith in
      ap (λ (n : ℕ). with_lines with_line n rest (reading edits)) same ∙ ap (λ (es : List Edit). with_lines with_line (number + 0) rest (reading es)) (sym (append-nil edits))
  rules_read number (r ∷ rules) edits rest read short few =
      let line = rule_text (counts r) r in
      let same : number + 1 + length rules ≡ number + length (r ∷ rules) = omega arith in
      let room : length edits < most_edits = omega (arith, few) in
      let fewer : length (edits ++ added r ∷ []) + length rules ≤ most_edits = omega (arith, few, length-append edits (added r ∷ [])) in
      next_line number line (texts rules ++ rest) (reading edits) (reading (edits ++ added r ∷ []))
      (front_read number _ edits (added r) (All-head (λ t. length t ≤ most_line_bytes) line (texts rules) short) room read.0)
      ∙ rules_read (number + 1) rules (edits ++ added r ∷ []) rest read.1 (All-tail (λ t. length t ≤ most_line_bytes) line (texts rules) short) fewer
      ∙ ap (λ (n : ℕ). with_lines with_line n rest (reading ((edits ++ added r ∷ []) ++ map added rules))) same
      ∙ ap (λ (es : List Edit). with_lines with_line (number + length (r ∷ rules)) rest (reading es)) (append_assoc edits (added r ∷ []) (map added rules))

-- comments, and the empty line after the last line feed
pub comments_read : (comment : ℕ → List ℕ) (number : ℕ) (gone : List ℕ) (r : Reading) → AreShort (map (λ n. number_sign ∷ comment n) gone)
    → with_lines with_line number (map (λ n. number_sign ∷ comment n) gone ++ [] ∷ []) r ≡ Ok r
comments_read comment number [] r short = next_line number [] [] r r (empty_read number r) ∙ no_line (number + 1) r
comments_read comment number (n ∷ gone) r short =
    next_line number (number_sign ∷ comment n) (map (λ k. number_sign ∷ comment k) gone ++ [] ∷ []) r r
    (comment_read number (comment n) r (All-head (λ t. length t ≤ most_line_bytes) (number_sign ∷ comment n) (map (λ k. number_sign ∷ comment k) gone) short))
    ∙ comments_read comment (number + 1) gone r (All-tail (λ t. length t ≤ most_line_bytes) (number_sign ∷ comment n) (map (λ k. number_sign ∷ comment k) gone) short)

pub whole : (bytes : List ℕ) (edits : List Edit) → with_lines with_line 1 (lines_of bytes) nothing_read ≡ Ok (reading edits) → script_of bytes ≡ Ok (reading edits).said
unfolding script_of
whole bytes edits h = rw h refl
