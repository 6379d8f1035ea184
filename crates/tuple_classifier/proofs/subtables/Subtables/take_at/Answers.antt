use Rattle.std.proofs.Common.{◌≡◌, true, sym, ap, ◌∙◌, arith}
use Rattle.std.proofs.lemmas.Option.{same_Some}
use Rattle.spec_keys.specs.Keys.{same}
use Rattle.indexmap.specs.IndexMap.{values}
use Rattle.indexmap.specs.Layout.{length-set_value_at}
use Rattle.ovs_fields.specs.Packed.{bits}
use Rattle.staged_lookup.specs.Numbered.{without}
use Rattle.tuple_classifier.specs.Parts.{of_mask}
use Rattle.tuple_classifier.specs.declared.subtable.Subtable.{Subtable}
use Rattle.tuple_classifier.proofs.KeptLaws.{keyed_in_place, order_in_place, rules_written, falls_but, falls_alike}
use Rattle.tuple_classifier.proofs.Places.{turned}
use Rattle.tuple_classifier.proofs.TableLaws.{take_in_place, among_part}
use Rattle.tuple_classifier.proofs.subtables.Subtables.take_at.Goals as goal

pub index-requires-2 : goal.index-requires-2
index-requires-2 c =
    let same_length = length-set_value_at c.args.self.now.by_mask.entries c.args.place c.take.new.self in
    let within = c.requires.within in
    omega (arith, same_length, within)

pub invariant_of-self : goal.invariant_of-self
invariant_of-self c =
    let es = c.args.self.now.by_mask.entries in
    record {
      keyed = keyed_in_place es c.args.place c.index_mut.result.now c.take.new.self c.index_mut.ensures.value c.take.ensures.mask c.args.self.now.keyed;
      placed = order_in_place es c.args.self.now.order.items c.args.place c.take.new.self c.args.self.now.placed;
    }

pub drop_at-requires : goal.drop_at-requires
drop_at-requires c =
    let same_length = length-set_value_at c.args.self.now.by_mask.entries c.args.place c.take.new.self in
    let within = c.requires.within in
    omega (arith, same_length, within)

pub settle-requires-clause-order : goal.settle-requires-clause-order
settle-requires-clause-order c = order_in_place c.args.self.now.by_mask.entries c.args.self.now.order.items c.args.place c.take.new.self c.args.self.now.placed

pub settle-requires-clause-within : goal.settle-requires-clause-within
settle-requires-clause-within c =
    let same_length = length-set_value_at c.args.self.now.by_mask.entries c.args.place c.take.new.self in
    let within = c.requires.within in
    omega (arith, same_length, within)

pub invariant_of-self-else-is_empty : goal.invariant_of-self-else-is_empty
invariant_of-self-else-is_empty c =
    let es = c.args.self.now.by_mask.entries in
    record {
      keyed = keyed_in_place es c.args.place c.index_mut.result.now c.take.new.self c.index_mut.ensures.value c.take.ensures.mask c.args.self.now.keyed;
      placed = c.settle.ensures.order;
    }

pub returns-then-is_empty : goal.returns-then-is_empty
returns-then-is_empty c rs r given are distinct m of_rank at_given same_mask =
    let es = c.args.self.now.by_mask.entries in
    let ss = values c.args.self.now.by_mask in
    let order = c.args.self.now.order.items in
    let s = c.index_mut.result.now in
    let t = c.take.new.self in
    let at = c.index_mut.ensures.value in
    let of_mask_too : same (bits s.staged.mask) r.matching.mask ≡ true = ap (λ (x : Subtable). same (bits x.staged.mask) r.matching.mask) (same_Some s given (sym at ∙ at_given)) ∙ same_mask in
    let left = rules_written es order c.args.place s t at (without r.number rs)
    (take_in_place ss rs c.args.place s t r are.subtables distinct m at (ap bits c.take.ensures.mask) of_mask_too
    (c.take.ensures.taken (of_mask (bits s.staged.mask) rs) r (are.subtables.each c.args.place s at) (among_part (bits s.staged.mask) rs r m (turned _ _ true of_mask_too)) of_rank)) in
    let x = c.index-2.result.now in
    c.drop_at.ensures (without r.number rs) left (falls_but es order c.args.place s t at are.falling)
    (λ u at_u. ap (λ (y : Subtable). of_mask (bits y.staged.mask) (without r.number rs)) (same_Some u x (sym at_u ∙ c.index-2.ensures))
    ∙ c.is_empty.ensures c.if-is_empty.true (of_mask (bits x.staged.mask) (without r.number rs)) (left.each c.args.place x c.index-2.ensures))

pub returns-else-is_empty : goal.returns-else-is_empty
returns-else-is_empty c rs r given are distinct m of_rank at_given same_mask =
    let es = c.args.self.now.by_mask.entries in
    let ss = values c.args.self.now.by_mask in
    let order = c.args.self.now.order.items in
    let s = c.index_mut.result.now in
    let t = c.take.new.self in
    let at = c.index_mut.ensures.value in
    let of_mask_too : same (bits s.staged.mask) r.matching.mask ≡ true = ap (λ (x : Subtable). same (bits x.staged.mask) r.matching.mask) (same_Some s given (sym at ∙ at_given)) ∙ same_mask in
    record {
      subtables = rules_written es order c.args.place s t at (without r.number rs)
          (take_in_place ss rs c.args.place s t r are.subtables distinct m at (ap bits c.take.ensures.mask) of_mask_too
          (c.take.ensures.taken (of_mask (bits s.staged.mask) rs) r (are.subtables.each c.args.place s at) (among_part (bits s.staged.mask) rs r m (turned _ _ true of_mask_too)) of_rank));
      falling = c.settle.ensures.falling (falls_but es order c.args.place s t at are.falling)
          (falls_alike es order c.args.place s t at c.index.result.now c.greatest-before.result c.index.ensures c.greatest-before.ensures are.falling);
    }
