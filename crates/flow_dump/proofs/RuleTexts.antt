-- The lines by numbers are those of the definition.
use Rattle.std.proofs.Common.{◌≡◌, inl, inr, ℕ, zero, suc, ◌+◌, ◌≤◌, not, if◌then◌else◌, List, [], ◌∷◌, ◌++◌, length, filter, map, IsTrue, All, refl, sym, ap, ap₂, subst, ◌∙◌, arith}
use Rattle.std.specs.Prelude.{Result, Err}
use Rattle.std.specs.List.{list_all, flat_map, range_with_len}
use Rattle.std.specs.Option.{option_map_or}
use Rattle.std.proofs.lemmas.Bool.{cases_Bool}
use Rattle.std.proofs.lemmas.List.Elements.{All-head, All-tail}
use Rattle.std.proofs.lemmas.List.Folds.{flat_map-map}
use Rattle.spec_base.specs.Files.{File}
use Rattle.spec_tables.specs.Rules.{Rule}
use Rattle.spec_tables.specs.Bundles.{AreBundles}
use Rattle.spec_tables.specs.Edits.{has_sound_actions}
use Rattle.spec_tables.specs.Live.{is_live}
use Rattle.spec_case.specs.Run.{Run, edit_count}
use Rattle.spec_board.specs.Texts.{Journal}
use Rattle.spec_run.specs.declared.rule_counts.RuleCounts.{RuleCounts}
use Rattle.spec_run.specs.Rules.{counts_of, in_order, rule_line, rule_line_with, gone_line, gone_line_with, live_rules, is_gone, gone_rules, rules_text}
use Rattle.edge_io.specs.declared.outside.Failed.{Failed}
use Rattle.edge_io.specs.declared.outside.Failed.TheVariants.{OutOfMemory}
use Rattle.edge_io.specs.declared.outside.InUse.TheVariants.{Nothing}
use Rattle.edge_io.specs.declared.outside.Shelf as shelf
use Rattle.edge_io.specs.Written.{WritesFile}
use Rattle.rule_tables.specs.History.{History, applied, history_of}
use Rattle.rule_tables.proofs.Histories.{applied-edit_history, rules_of-history}
use Rattle.dump_lines.specs.declared.rules.places.RulePlace.{RulePlace}
use Rattle.dump_lines.specs.Live.{IsOfEdits, live_in, is_gone_in}
use Rattle.dump_lines.specs.Places.{place_of}
use Rattle.dump_lines.proofs.rules.Added.{added_as-rule_added}
use Rattle.dump_lines.proofs.rules.Listed.{IsListed, listed}
use Rattle.flow_dump.specs.Counted.{AreCounts}
use Rattle.flow_dump.specs.RuleTexts.{counts_in, live_text, gone_text, lines_of}

module _ (run : Run) (journals : List Journal) (counts : List RuleCounts) (are : AreCounts run journals counts) (whole : AreBundles run.bundles (edit_count run)) (sound : IsTrue (list_all has_sound_actions run.edits)) where
  pub of_edits : IsOfEdits (history_of run.edits run.bundles)
  of_edits = record { edits = run.edits; bundles = run.bundles; history = refl; whole = whole; sound = sound }

  -- ---- live rules

  -- those of the last version
  live_is : live_in (history_of run.edits run.bundles) ≡ live_rules run
  live_is = rules_of-history run.edits run.bundles (length run.bundles) (omega (arith, whole.whole))

  live_line_is : (r : Rule) → IsListed (history_of run.edits run.bundles) r → live_text (history_of run.edits run.bundles) counts r.number ≡ rule_line run journals r
  live_line_is r l =
      let line : RuleCounts → Rule → List ℕ = rule_line_with in
      let counted : counts_in counts r.number ≡ counts_of run journals r.number = are.each r.number _ l.live.first (omega (arith, l.live.last, applied-edit_history run.edits)) in
      ap (λ o. option_map_or (line (counts_in counts r.number)) o []) l.found ∙ ap (λ c. line c r) counted

  live_lines_are : (rules : List Rule) → All (IsListed (history_of run.edits run.bundles)) rules
      → flat_map (λ (r : Rule). live_text (history_of run.edits run.bundles) counts r.number) rules ≡ flat_map (rule_line run journals) rules
  live_lines_are [] all = refl
  live_lines_are (r ∷ rules) all =
      ap₂ (λ a b. a ++ b) (live_line_is r (All-head (IsListed (history_of run.edits run.bundles)) r rules all))
      (live_lines_are rules (All-tail (IsListed (history_of run.edits run.bundles)) r rules all))

  live_part : flat_map (λ (p : RulePlace). live_text (history_of run.edits run.bundles) counts p.number) (map place_of (in_order (live_in (history_of run.edits run.bundles))))
      ≡ flat_map (rule_line run journals) (in_order (live_rules run))
  live_part =
      flat_map-map (λ (p : RulePlace). live_text (history_of run.edits run.bundles) counts p.number) place_of (in_order (live_in (history_of run.edits run.bundles)))
      ∙ live_lines_are (in_order (live_in (history_of run.edits run.bundles))) (listed (history_of run.edits run.bundles) of_edits)
      ∙ ap (λ rs. flat_map (rule_line run journals) (in_order rs)) live_is

  -- ---- rules that are gone

  gone_is : (n : ℕ) → n ≤ edit_count run → is_gone_in (history_of run.edits run.bundles) n ≡ is_gone run n
  gone_is n le =
      ap₂ (λ rs added. if is_live n rs then not added else added) live_is (added_as-rule_added run.edits sound n le)

  gone_lines_are : (low k : ℕ) → 1 ≤ low → low + k ≤ edit_count run + 1
      → flat_map (gone_text (history_of run.edits run.bundles) counts) (range_with_len low k) ≡ flat_map (gone_line run journals) (filter (is_gone run) (range_with_len low k))
  gone_lines_are low zero first last = refl
  gone_lines_are low (suc k) first last =
      let rest = gone_lines_are (low + 1) k (omega arith) (omega arith) in
      let counted : counts_in counts low ≡ counts_of run journals low = are.each low _ first (omega arith) in
      let same = gone_is low (omega arith) in
      elim (cases_Bool (is_gone run low)) [
        | inl gone ↦
            ap₂ (λ a b. a ++ b)
            (ap (λ t. if t then gone_line_with (counts_in counts low) low else []) (same ∙ gone) ∙ ap (λ c. gone_line_with c low) counted) rest
            ∙ sym (ap (λ t. flat_map (gone_line run journals) (if t then low ∷ filter (is_gone run) (range_with_len (low + 1) k) else filter (is_gone run) (range_with_len (low + 1) k))) gone)
        | inr other ↦
            ap₂ (λ a b. a ++ b)
            (ap (λ t. if t then gone_line_with (counts_in counts low) low else []) (same ∙ other)) rest
            ∙ sym (ap (λ t. flat_map (gone_line run journals) (if t then low ∷ filter (is_gone run) (range_with_len (low + 1) k) else filter (is_gone run) (range_with_len (low + 1) k))) other)
      ]

  gone_part : flat_map (gone_text (history_of run.edits run.bundles) counts) (range_with_len 1 (applied (history_of run.edits run.bundles).edits)) ≡ flat_map (gone_line run journals) (gone_rules run)
  gone_part =
      ap (λ n. flat_map (gone_text (history_of run.edits run.bundles) counts) (range_with_len 1 n)) (applied-edit_history run.edits)
      ∙ gone_lines_are 1 (edit_count run) (omega arith) (omega arith)

  pub rules_text-is : lines_of (history_of run.edits run.bundles) counts (map place_of (in_order (live_in (history_of run.edits run.bundles)))) ≡ rules_text run journals
  rules_text-is = ap₂ (λ a b. a ++ b) live_part gone_part

  pub text_is : (h : History) → h ≡ history_of run.edits run.bundles → (order : List RulePlace) → order ≡ map place_of (in_order (live_in h))
      → lines_of h counts order ≡ rules_text run journals
  text_is h is =
      let P : History → Type 0 = λ g. (order : List RulePlace) → order ≡ map place_of (in_order (live_in g)) → lines_of g counts order ≡ rules_text run journals in
      subst P (sym is) (λ order o. ap (lines_of (history_of run.edits run.bundles) counts) o ∙ rules_text-is)

-- there are as many counts as edits
pub counts_long : (run : Run) (journals : List Journal) (counts : List RuleCounts) → AreCounts run journals counts → (h : History) → h ≡ history_of run.edits run.bundles
    → length counts ≡ applied h.edits
counts_long run journals counts are h is = are.long ∙ sym (applied-edit_history run.edits) ∙ ap (λ (g : History). applied g.edits) (sym is)

-- out of memory before a file was created
pub not_created : {S : Type 0} (g : shelf.Ghosts S) (s : S) (file : File) {T : Type 0} (r : Result T Failed) → r ≡ Err OutOfMemory
    → g.in_use s ≡ Nothing → WritesFile g s s file r
not_created g s file r is nothing = rw is (record {
  in_use = tt;
  ok = λ t. tt;
  err = λ t. rw nothing (inl refl);
  named = λ t h. cc;
  since = λ t h. cc;
  opened = λ t. refl;
  cause = record { fault = λ h. cc; no_memory = λ h. refl; ok = tt };
})
