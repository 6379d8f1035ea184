use Rattle.std.proofs.Common.{ℕ, get_or, Option, refl, ap}
use Rattle.std.proofs.lemmas.Option.{slice_get-get_or}
use Rattle.rule_tables.specs.declared.stored.StoredRule.{StoredRule}
use Rattle.rule_tables.specs.Stored.{with_end}
use Rattle.rule_tables.proofs.Placed.{index_moved}
use Rattle.rule_tables.proofs.places.RulePlaces.remove_at.Goals as goal

pub returns-in-Some-clause-placed : goal.returns-in-Some-clause-placed
returns-in-Some-clause-placed c gone placed =
    let s : StoredRule = get_or c.args.rules.now c.in-Some.place c.index-rules-place.result in
    index_moved _ _ _ _ _ _ (λ hash. refl) refl (ap (λ (place : Option ℕ). with_end place gone c.args.rules.now) c.in-Some.is)
    (c.remove.ensures.placed c.args.rules.now s gone placed
    (slice_get-get_or c.args.rules.now c.in-Some.place c.index-rules-place.result (c.requires c.in-Some.place c.in-Some.is)) refl)
