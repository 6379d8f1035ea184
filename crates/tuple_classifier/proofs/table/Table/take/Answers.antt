use Rattle.std.proofs.Common.{true, sym, ap, ◌∙◌, subst}
use Rattle.spec_keys.specs.Keys.{same}
use Rattle.ovs_fields.specs.Packed.{bits}
use Rattle.staged_lookup.specs.Numbered.{without}
use Rattle.staged_lookup.proofs.Removed.{count-without}
use Rattle.tuple_classifier.specs.Parts.{of_mask}
use Rattle.tuple_classifier.specs.Subtables.{Holds}
use Rattle.tuple_classifier.proofs.HoldLaws.{has_rule}
use Rattle.tuple_classifier.proofs.Places.{turned}
use Rattle.tuple_classifier.proofs.TableLaws.{among_part}
use Rattle.tuple_classifier.proofs.table.Table.take.Goals as goal

pub take-requires : goal.take-requires
take-requires c i s at same_mask =
    let has = c.requires in
    subst (Holds s c.args.rank) (ap (λ m. m.key) has.matching_is)
    (has_rule s c.args.rank (of_mask (bits s.staged.mask) has.rules) has.rule (has.are.kept.subtables.each i s at)
    (among_part (bits s.staged.mask) has.rules has.rule has.among (ap (λ k. same k (bits s.staged.mask)) (ap (λ m. m.mask) has.matching_is) ∙ turned (bits s.staged.mask) (bits c.args.matching.now.mask) true same_mask)) has.rank_is)

pub remove-requires : goal.remove-requires
remove-requires c = let has = c.requires in (has.rules, has.rule, has.are.prefixed, has.among, has.matching_is)

pub returns : goal.returns
returns c rs r are distinct m is of_rank = record {
  kept = c.take.ensures rs r are.kept distinct m is of_rank;
  prefixed = c.remove.ensures rs (without r.number rs) r are.prefixed is (λ p. sym (count-without p r rs m distinct));
}
