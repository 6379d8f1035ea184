use Rattle.std.proofs.Common.{[], ◌∷◌, inl, refl}
use Rattle.spec_tables.specs.Rules.{Rule}
use Rattle.ovs_fields.specs.Equality.{same_from_equal}
use Rattle.rule_tables.specs.Views.{match_view}
use Rattle.structure_tests.proofs.subtables.one_rule_comes_and_goes.Goals as goal

pub insert-requires-clause-mask : goal.insert-requires-clause-mask
insert-requires-clause-mask g c = same_from_equal _ _ c.requires.mask

pub remove-requires : goal.remove-requires
remove-requires g c =
    let r : Rule = record { number = 7; table = 0; priority = 100; cookie = 0; matching = match_view c.args.matching.now; actions = [] } in
    (r ∷ [], c.in_ok-insert.ensures.ok [] r c.requires.empty refl refl refl, (r, inl refl, refl, refl))
