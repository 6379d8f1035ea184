use Rattle.std.proofs.Common.{◌≡◌, ℕ, ◌==◌, true, false, not, filter, Option, Some, None, refl, sym, ap, ◌∙◌, inl, inr}
use Rattle.std.specs.Prelude.{nat_eq}
use Rattle.std.specs.HashMap.{get}
use Rattle.std.specs.Option.{option_eq}
use Rattle.std.proofs.lemmas.Bool.{false≢true, eqb-true, eq-eqb}
use Rattle.rule_tables.specs.declared.places.RulePlaces.{RulePlaces}
use Rattle.rule_tables.specs.RulePlaces.{rule_hash}
use Rattle.rule_tables.proofs.Placed.{index_ended}
use Rattle.rule_tables.proofs.places.RulePlaces.remove.Goals as goal
use Rattle.rule_tables.proofs.places.RulePlaces.remove.Goals.{then-eq, else-eq}

same_place : (o : Option ℕ) (place : ℕ) → option_eq nat_eq o (Some place) ≡ true → o ≡ Some place
same_place None place is = absurd (false≢true is)
same_place (Some n) place is = ap (λ (k : ℕ). Some k) (eqb-true n place is)

other_place : (o : Option ℕ) (place : ℕ) → option_eq nat_eq o (Some place) ≡ false → o ≡ Some place → ⊥
other_place o place other is = false≢true (sym other ∙ ap (λ p. option_eq nat_eq p (Some place)) is ∙ eq-eqb place place refl)

pub returns-clause-placed : goal.returns-clause-placed
returns-clause-placed c stored s gone placed at its =
    let found : c.copied.result ≡ get nat_eq c.args.self.now.by_hash c.rule_hash-hash.result = c.copied.ensures ∙ c.get.ensures.value in
    index_ended _ _ _ _ stored s c.rule_hash-hash.result c.args.place gone placed at (ap rule_hash its ∙ sym c.rule_hash-hash.ensures)
    (elim c.if-eq.branch [
      | then-eq w ↦
          inl (
            sym found ∙ same_place c.copied.result c.args.place (sym c.eq.ensures ∙ w.if-eq.true),
            λ q. ap (λ (places : RulePlaces). get nat_eq places.by_hash q) w.self-is ∙ w.remove.ensures.updates.0 q,
          )
      | else-eq w ↦
          inr (
            λ here. other_place c.copied.result c.args.place (sym c.eq.ensures ∙ w.if-eq.false) (found ∙ here),
            λ q. ap (λ (places : RulePlaces). get nat_eq places.by_hash q) w.self-is,
          )
    ])
    (c.remove_place.ensures.items
    ∙ ap (filter (λ other. not (other == c.args.place)))
    (elim c.if-eq.branch [
      | then-eq w ↦ ap (λ (places : RulePlaces). places.others.items) w.self-is
      | else-eq w ↦ ap (λ (places : RulePlaces). places.others.items) w.self-is
    ]))
