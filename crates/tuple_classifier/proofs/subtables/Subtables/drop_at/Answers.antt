use Rattle.std.proofs.Common.{subst, arith}
use Rattle.indexmap.specs.IndexMap.{values}
use Rattle.tuple_classifier.specs.Placed.{IsOrderOf}
use Rattle.tuple_classifier.proofs.KeptLaws.{length-subtables, swapped_out, length_less, keyed_less, rules_less, falls_less}
use Rattle.tuple_classifier.proofs.subtables.Subtables.drop_at.Goals as goal

pub invariant_of-self : goal.invariant_of-self
invariant_of-self c =
    let es = c.args.self.now.by_mask.entries in
    let new = c.swap_remove_index.new.self.entries in
    let d = swapped_out es new c.args.place c.swap_remove_index.result c.requires c.swap_remove_index.ensures.entry c.swap_remove_index.ensures.entries in
    let shorter = length_less es new c.args.place d.0 c.requires d.1 in
    let all = c.len.ensures.len in
    record {
      keyed = keyed_less es new c.args.place d.0 c.requires d.1 c.args.self.now.keyed;
      placed = subst (λ n. IsOrderOf n c.leave.new.order.items) (omega (arith, shorter, all)) c.leave.ensures.order;
    }

pub returns : goal.returns
returns c rs are falling none =
    let es = c.args.self.now.by_mask.entries in
    let new = c.swap_remove_index.new.self.entries in
    let d = swapped_out es new c.args.place c.swap_remove_index.result c.requires c.swap_remove_index.ensures.entry c.swap_remove_index.ensures.entries in
    let all = c.len.ensures.len in
    let same = length-subtables es in
    let within = c.requires in
    record {
      subtables = rules_less es new c.args.place d.0 c.requires d.1 rs are none;
      falling = falls_less es new c.args.place d.0 c.requires d.1 c.leave.new.order.items (c.leave.ensures.falling (values c.args.self.now.by_mask) d.0.1 (omega (arith, all, same, within)) falling);
    }
