use Rattle.std.proofs.Common.{refl, ap, ◌∙◌}
use Rattle.spec_keys.specs.Keys.{same}
use Rattle.ovs_fields.specs.Packed.{bits}
use Rattle.tuple_classifier.proofs.KeptLaws.{subtable_at}
use Rattle.tuple_classifier.proofs.TableLaws.{nowhere_clashes}
use Rattle.tuple_classifier.proofs.subtables.Subtables.take.Goals as goal

pub take_at-requires-clause-holds : goal.take_at-requires-clause-holds
take_at-requires-clause-holds c s at = c.requires c.in-Some.place s at (c.in-Some.ensures.some.1 s at)

pub returns-in-Some : goal.returns-in-Some
returns-in-Some c rs r are distinct m is of_rank =
    let s = subtable_at c.args.self.now.by_mask.entries c.in-Some.place c.in-Some.ensures.some.0 in
    c.take_at.ensures rs r s.0 are distinct m of_rank s.1 (ap (same (bits s.0.staged.mask)) (ap (λ k. k.mask) is) ∙ c.in-Some.ensures.some.1 s.0 s.1)

pub returns-in_default : goal.returns-in_default
returns-in_default c rs r are distinct m is of_rank =
    absurd (nowhere_clashes _ rs r are.subtables m (λ j s at. ap (same (bits s.staged.mask)) (ap (λ k. k.mask) is) ∙ c.in_default.ensures.none refl j s at))
