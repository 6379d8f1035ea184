use Rattle.std.proofs.Common.{◌+◌, ◌∷◌, ◌++◌, [], length, subst, sym, ap, ◌∙◌, arith}
use Rattle.indexmap.specs.IndexMap.{values}
use Rattle.spec_keys.specs.Keys.{same}
use Rattle.ovs_fields.specs.Packed.{bits}
use Rattle.tuple_classifier.specs.Numbers.{times}
use Rattle.tuple_classifier.specs.Order.{IsFallingAlong}
use Rattle.tuple_classifier.specs.Placed.{IsOrderOf}
use Rattle.tuple_classifier.proofs.KeptLaws.{keyed_more, rules_more, within_more, falls_more, order_entered}
use Rattle.tuple_classifier.proofs.PlacedLaws.{one_if}
use Rattle.tuple_classifier.proofs.TableLaws.{insert_at_end}
use Rattle.tuple_classifier.proofs.subtables.Subtables.insert_new.Goals as goal

pub enter-requires-clause-places : goal.enter-requires-clause-places
enter-requires-clause-places c =
    let es = c.args.self.now.by_mask.entries in
    let m = c.args.matching.now.mask in
    let t = c.in_ok-subtable.subtable in
    let more = c.in_ok-add_subtable.ensures.ok in
    within_more es c.add_subtable.new.by_mask.entries m t more c.reserve.new.self.items (subst (IsOrderOf (length es)) (sym c.reserve.ensures.items) c.args.self.now.placed)

pub invariant_of-self-2 : goal.invariant_of-self-2
invariant_of-self-2 c =
    let es = c.args.self.now.by_mask.entries in
    let new = c.add_subtable.new.by_mask.entries in
    let m = c.args.matching.now.mask in
    let t = c.in_ok-subtable.subtable in
    let more = c.in_ok-add_subtable.ensures.ok in
    let order = c.args.self.now.order.items in
    record {
      keyed = keyed_more es new m t more (sym c.in_ok-subtable.ensures.mask_is) c.args.self.now.keyed;
      placed = order_entered es new m t more order c.args.self.now.placed c.enter.new.order.items c.in-Ok.place (let place = c.in-Ok.ensures in let all = c.len.ensures.len in omega (arith, place, all)) (λ p. c.enter.ensures.places p ∙ ap (λ xs. times p xs + one_if c.in-Ok.place p) c.reserve.ensures.items);
    }

pub returns-clause-ok : goal.returns-clause-ok
returns-clause-ok c rs r are is of_rank =
    let es = c.args.self.now.by_mask.entries in
    let new = c.add_subtable.new.by_mask.entries in
    let ss = values c.args.self.now.by_mask in
    let m = c.args.matching.now.mask in
    let t = c.in_ok-subtable.subtable in
    let one = c.in_ok-subtable.ensures in
    let more = c.in_ok-add_subtable.ensures.ok in
    let order = c.args.self.now.order.items in
    record {
      subtables = rules_more es new m t more (rs ++ r ∷ [])
          (insert_at_end ss rs t r are.subtables (one.mask_is ∙ sym (ap (λ k. k.mask) is)) (λ j s at. ap (same (bits s.staged.mask)) (ap (λ k. k.mask) is) ∙ c.requires.none j s at) (one.has_one r is of_rank));
      falling = c.enter.ensures.falling (subst (IsFallingAlong (values c.add_subtable.new.by_mask)) (sym c.reserve.ensures.items) (falls_more es new m t more order c.args.self.now.placed are.falling));
    }
