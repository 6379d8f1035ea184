use Rattle.std.proofs.Common.{◌≡◌, ℕ, [], ◌∷◌, inl, inr, refl, sym, ap, ◌∙◌, arith}
use Rattle.spec_tables.specs.Rules.{Match, Rule}
use Rattle.ovs_fields.specs.Packed.{bits}
use Rattle.ovs_fields.specs.Equality.{same_from_equal}
use Rattle.rule_tables.specs.Views.{match_view}
use Rattle.staged_lookup.specs.Numbered.{HasNoNumber}
use Rattle.structure_tests.proofs.subtables.two_rules_come_and_go.Goals as goal

abbrev rule : ℕ → ℕ → Match → Rule
rule number priority matching = record { number = number; table = 0; priority = priority; cookie = 0; matching = matching; actions = [] }

other : (m : Match) → HasNoNumber 8 (rule 7 100 m ∷ [])
other m r (inl is) e = let f : 7 ≡ 8 = sym (ap (λ (x : Rule). x.number) is) ∙ e in absurd (omega (arith, f))
other m r (inr none) e = absurd none

pub insert-requires-clause-mask : goal.insert-requires-clause-mask
insert-requires-clause-mask g c = same_from_equal _ _ c.requires.mask

pub insert-requires-2-clause-mask : goal.insert-requires-2-clause-mask
insert-requires-2-clause-mask g c = same_from_equal _ _ (c.requires.mask ∙ ap bits (sym c.insert.ensures.mask))

pub insert-requires-2-clause-new : goal.insert-requires-2-clause-new
insert-requires-2-clause-new g c =
    let m = match_view c.args.matching.now in
    (rule 7 100 m ∷ [], c.in_ok-insert.ensures.ok [] (rule 7 100 m) c.requires.empty refl refl refl, other m)

pub remove-requires : goal.remove-requires
remove-requires g c =
    let m = match_view c.args.matching.now in
    let one = c.in_ok-insert.ensures.ok [] (rule 7 100 m) c.requires.empty refl refl refl in
    (rule 7 100 m ∷ rule 8 200 m ∷ [], c.in_ok-insert-2.ensures.ok (rule 7 100 m ∷ []) (rule 8 200 m) one refl refl refl, (rule 8 200 m, inr (inl refl), refl, refl))

pub remove-requires-2 : goal.remove-requires-2
remove-requires-2 g c =
    let m = match_view c.args.matching.now in
    let one = c.in_ok-insert.ensures.ok [] (rule 7 100 m) c.requires.empty refl refl refl in
    let two = c.in_ok-insert-2.ensures.ok (rule 7 100 m ∷ []) (rule 8 200 m) one refl refl refl in
    (rule 7 100 m ∷ [], c.remove.ensures.removed (rule 7 100 m ∷ rule 8 200 m ∷ []) two, (rule 7 100 m, inl refl, refl, refl))
