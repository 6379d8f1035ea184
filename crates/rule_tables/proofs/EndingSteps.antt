-- One step of the loop that ends the lives of the rules that an edit acts on.
use Rattle.std.proofs.Common.{◌≡◌, ℕ, ◌+◌, true, false, List, take, get_or, Some, sym, ap, ◌∙◌}
use Rattle.std.specs.Prelude.{slice_get, slice_set, count_by}
use Rattle.std.proofs.lemmas.Bool.{cond-true, cond-false}
use Rattle.std.proofs.lemmas.List.Sums.{count_by_more_yes, count_by_more_no}
use Rattle.std.proofs.lemmas.Option.{slice_get_within, get_or_from_slice_get}
use Rattle.spec_tables.specs.Edits.{Edit}
use Rattle.rule_tables.specs.declared.stored.StoredRule.{StoredRule}
use Rattle.rule_tables.specs.Stored.{acts_on, ended_by}
use Rattle.rule_tables.proofs.FilterMaps.{mapped_to, mapped_to_at, mapped_to_set, mapped_to_kept}

module _ (xs rules : List StoredRule) (e : Edit) (gone i : ℕ) (x : StoredRule) (so_far : rules ≡ mapped_to i (ended_by e gone) xs) (at : slice_get rules i ≡ Some x) where
  at_first : slice_get xs i ≡ Some x
  at_first = sym (mapped_to_at (ended_by e gone) i xs) ∙ sym (ap (λ (zs : List StoredRule). slice_get zs i) so_far) ∙ at

  pub life_ends : acts_on e x ≡ true → slice_set rules i (record x { gone = Some gone }) ≡ mapped_to (i + 1) (ended_by e gone) xs
  life_ends acts =
      ap (λ (zs : List StoredRule). slice_set zs i (record x { gone = Some gone })) so_far
      ∙ ap (λ (y : StoredRule). slice_set (mapped_to i (ended_by e gone) xs) i y) (sym (cond-true (acts_on e x) (record x { gone = Some gone }) x acts))
      ∙ mapped_to_set (ended_by e gone) i xs x at_first

  pub life_stays : acts_on e x ≡ false → rules ≡ mapped_to (i + 1) (ended_by e gone) xs
  life_stays idle = so_far ∙ mapped_to_kept (ended_by e gone) i xs x at_first (cond-false (acts_on e x) (record x { gone = Some gone }) x idle)

  here : acts_on e (get_or xs i x) ≡ acts_on e x
  here = ap (acts_on e) (get_or_from_slice_get xs i x x at_first)

  pub counts_more : (n : ℕ) → n ≡ count_by (acts_on e) (take i xs) → acts_on e x ≡ true → n + 1 ≡ count_by (acts_on e) (take (i + 1) xs)
  counts_more n is acts = ap (λ (k : ℕ). k + 1) is ∙ sym (count_by_more_yes (acts_on e) xs i x (slice_get_within xs i x at_first) (here ∙ acts))

  pub counts_same : (n : ℕ) → n ≡ count_by (acts_on e) (take i xs) → acts_on e x ≡ false → n ≡ count_by (acts_on e) (take (i + 1) xs)
  counts_same n is idle = is ∙ sym (count_by_more_no (acts_on e) xs i x (slice_get_within xs i x at_first) (here ∙ idle))
