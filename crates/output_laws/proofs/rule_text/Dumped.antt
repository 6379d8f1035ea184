-- The dump of a run's rules, as a file of edits.
use Rattle.std.proofs.Common.{◌≡◌, ℕ, ◌+◌, ◌≤◌, Bool, true, false, if◌then◌else◌, List, [], ◌∷◌, ◌++◌, length, map, refl, sym, ap, ap₂, ◌∙◌, subst, arith, append_assoc, inl, inr, Ok}
use Rattle.std.specs.Prelude.{codes}
use Rattle.std.specs.List.{flat_map}
use Rattle.std.specs.Fmt.{decimal}
use Rattle.std.proofs.lemmas.Grind.{flat_map-append}
use Rattle.std.proofs.lemmas.List.{length-map}
use Rattle.std.proofs.lemmas.List.Folds.{flat_map-map}
use Rattle.spec_tables.specs.Rules.{Rule}
use Rattle.spec_tables.specs.Edits.{after_edits}
use Rattle.spec_tables.specs.Bundles.{edits_through, version}
use Rattle.spec_case.specs.Run.{Run, last_version}
use Rattle.spec_flow_text.specs.Characters.{number_sign}
use Rattle.spec_board.specs.Texts.{Journal, line_of}
use Rattle.spec_flow_text.specs.Lines.{edit_in}
use Rattle.spec_run.specs.declared.rule_counts.RuleCounts.{RuleCounts}
use Rattle.spec_base.proofs.SortLaws.{length-sort_by}
use Rattle.spec_run.specs.Rules.{counts_of, counts_text, comes_before, in_order, live_rules, gone_rules, rules_text}
use Rattle.spec_input.specs.Lines.{most_line_bytes, with_lines, lines_of}
use Rattle.spec_input.specs.Script.{nothing_read, most_edits, with_line, script_of}
use Rattle.table_laws.proofs.MemberLaws.{Among, All-Among, All_from-Among, Among-append_left, Among-append_right}
use Rattle.text_laws.proofs.PlainValues.{decimal_plain}
use Rattle.output_laws.specs.Lines.{rule_text, added}
use Rattle.output_laws.specs.Dumps.{IsReadableDump, dumped_rules, dumped_edits, renumbered}
use Rattle.output_laws.proofs.rule_text.Texts.{IsFeedless, plain_text, text_feedless, feedless_append}
use Rattle.output_laws.proofs.rule_text.Distinct.{distinct_edits, distinct_order}
use Rattle.output_laws.proofs.rule_text.Again.{rules_again}
use Rattle.output_laws.proofs.rule_text.Files.{AreFeedless, AreShort, AreRead, texts, lines_back, alone_through, reading, rules_read, comments_read, whole}

module _ (run : Run) (journals : List Journal) where
  abbrev counts : Rule → RuleCounts
  counts r = counts_of run journals r.number

  abbrev rules : List Rule
  rules = dumped_rules run

  -- what a comment has after its number sign
  abbrev comment : ℕ → List ℕ
  comment rule = codes " gone rule=" ++ (decimal rule ++ (codes " " ++ counts_text (codes " ") (counts_of run journals rule)))

  abbrev comments : List (List ℕ)
  comments = map (λ n. number_sign ∷ comment n) (gone_rules run)

  abbrev lines : List (List ℕ)
  lines = texts counts rules ++ comments

  dump_is : rules_text run journals ≡ flat_map line_of lines
  dump_is =
      let live = flat_map-map line_of (λ (r : Rule). rule_text (counts r) r) rules in
      let gone = flat_map-map line_of (λ (n : ℕ). number_sign ∷ comment n) (gone_rules run) in
      sym (flat_map-append line_of (texts counts rules) comments ∙ ap₂ (λ (a b : List ℕ). a ++ b) live gone)

  -- ---- no line has a line feed in it

  number_feedless : (n : ℕ) → IsFeedless (decimal n)
  number_feedless n = text_feedless (decimal n) (plain_text (decimal n) (decimal_plain n))

  comment_feedless : (n : ℕ) → IsFeedless (number_sign ∷ comment n)
  comment_feedless n =
      let c = counts_of run journals n in
      let bytes = feedless_append (codes " n_bytes=") (decimal c.bytes) refl (number_feedless c.bytes) in
      let packets = feedless_append (decimal c.packets) (codes " n_bytes=" ++ decimal c.bytes) (number_feedless c.packets) bytes in
      let both = feedless_append (codes " n_packets=") (decimal c.packets ++ (codes " n_bytes=" ++ decimal c.bytes)) refl packets in
      let after = feedless_append (decimal n) (codes " n_packets=" ++ (decimal c.packets ++ (codes " n_bytes=" ++ decimal c.bytes))) (number_feedless n) both in
      feedless_append (codes "# gone rule=") (decimal n ++ (codes " n_packets=" ++ (decimal c.packets ++ (codes " n_bytes=" ++ decimal c.bytes)))) refl after

  comments_feedless : (gone : List ℕ) → AreFeedless (map (λ n. number_sign ∷ comment n) gone)
  comments_feedless [] = tt
  comments_feedless (n ∷ gone) = (comment_feedless n, comments_feedless gone)

  all_feedless : (rs : List Rule) → ((r : Rule) → Among r rs → IsFeedless (rule_text (counts r) r)) → AreFeedless (texts counts rs ++ comments)
  all_feedless [] h = comments_feedless (gone_rules run)
  all_feedless (r ∷ rs) h = (h r (inl refl), all_feedless rs (λ s there. h s (inr there)))

  all_read : (rs : List Rule) → ((r : Rule) → Among r rs → edit_in (rule_text (counts r) r) ≡ Ok (added r)) → AreRead counts rs
  all_read [] h = tt
  all_read (r ∷ rs) h = (h r (inl refl), all_read rs (λ s there. h s (inr there)))

  short_front : (front back : List (List ℕ)) → AreShort (front ++ back) → AreShort front
  short_front front back short =
      All_from-Among (λ (t : List ℕ). length t ≤ most_line_bytes) front (λ t there. All-Among (λ (x : List ℕ). length x ≤ most_line_bytes) (front ++ back) short t (Among-append_left t front back there))

  short_back : (front back : List (List ℕ)) → AreShort (front ++ back) → AreShort back
  short_back front back short =
      All_from-Among (λ (t : List ℕ). length t ≤ most_line_bytes) back (λ t there. All-Among (λ (x : List ℕ). length x ≤ most_line_bytes) (front ++ back) short t (Among-append_right t front back there))

  pub script_is : IsReadableDump run journals → ((r : Rule) → Among r rules → edit_in (rule_text (counts r) r) ≡ Ok (added r)) → ((r : Rule) → Among r rules → IsFeedless (rule_text (counts r) r))
      → script_of (rules_text run journals) ≡ Ok (dumped_edits run)
  script_is d read feedless =
      let cut : lines_of (rules_text run journals) ≡ lines ++ [] ∷ [] = ap lines_of dump_is ∙ lines_back lines (all_feedless rules feedless) in
      let short : AreShort (lines ++ [] ∷ []) = subst AreShort cut d.short in
      let short_lines = short_front lines ([] ∷ []) short in
      let few : 0 + length rules ≤ most_edits = omega (arith, length-sort_by comes_before (live_rules run), d.few) in
      let shape = append_assoc (texts counts rules) comments ([] ∷ []) in
      whole (rules_text run journals) (map added rules)
      (ap (λ (ls : List (List ℕ)). with_lines with_line 1 ls nothing_read) (cut ∙ shape)
      ∙ rules_read counts 1 rules [] (comments ++ [] ∷ []) (all_read rules read) (short_front (texts counts rules) comments short_lines) few
      ∙ comments_read comment (1 + length rules) (gone_rules run) (reading (map added rules)) (short_back (texts counts rules) comments short_lines))

  pub rules_are : version (dumped_edits run).edits (dumped_edits run).bundles (length (dumped_edits run).bundles) ≡ renumbered 1 (dumped_rules run)
  rules_are =
      let all = alone_through (map added rules) ∙ length-map rules added in
      ap (after_edits (map added rules)) all
      ∙ rules_again rules (distinct_order (live_rules run) (distinct_edits run.edits (edits_through run.bundles (last_version run))))
