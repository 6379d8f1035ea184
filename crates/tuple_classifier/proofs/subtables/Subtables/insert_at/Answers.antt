use Rattle.std.proofs.Common.{◌≡◌, ◌∷◌, ◌++◌, [], true, ap, ◌∙◌, arith}
use Rattle.spec_keys.specs.Keys.{same}
use Rattle.indexmap.specs.IndexMap.{values}
use Rattle.indexmap.specs.Layout.{length-set_value_at}
use Rattle.ovs_fields.specs.Packed.{bits}
use Rattle.staged_lookup.proofs.Results.{on_err_always}
use Rattle.tuple_classifier.specs.Parts.{of_mask}
use Rattle.tuple_classifier.proofs.KeptLaws.{keyed_in_place, order_in_place, rules_written, falls_written, falls_but, falls_alike}
use Rattle.tuple_classifier.proofs.Places.{turned}
use Rattle.tuple_classifier.proofs.TableLaws.{insert_in_place, same_in_place, falls_in_place}
use Rattle.tuple_classifier.proofs.subtables.Subtables.insert_at.Goals as goal

pub insert-requires-clause-mask : goal.insert-requires-clause-mask
insert-requires-clause-mask c = turned _ _ true (c.requires.mask c.index_mut.result.now c.index_mut.ensures.value)

pub invariant_of-self : goal.invariant_of-self
invariant_of-self c =
    let es = c.args.self.now.by_mask.entries in
    record {
      keyed = keyed_in_place es c.args.place c.index_mut.result.now c.insert.new.self c.index_mut.ensures.value c.insert.ensures.mask c.args.self.now.keyed;
      placed = order_in_place es c.args.self.now.order.items c.args.place c.insert.new.self c.args.self.now.placed;
    }

pub returns-in_err-insert-clause-err : goal.returns-in_err-insert-clause-err
returns-in_err-insert-clause-err c =
    let es = c.args.self.now.by_mask.entries in
    let ss = values c.args.self.now.by_mask in
    let order = c.args.self.now.order.items in
    let s = c.index_mut.result.now in
    let t = c.insert.new.self in
    let at = c.index_mut.ensures.value in
    on_err_always c.from_residual.result _ (λ rs are.
    let own = c.in_err-insert.ensures.err (of_mask (bits s.staged.mask) rs) (are.subtables.each c.args.place s at) in
    record {
      subtables = rules_written es order c.args.place s t at rs (same_in_place ss rs c.args.place s t are.subtables at (ap bits c.insert.ensures.mask) own);
      falling = falls_written es order c.args.place s t at (falls_in_place ss order rs c.args.place s t are.subtables at own are.falling);
    })

pub settle-requires-clause-order : goal.settle-requires-clause-order
settle-requires-clause-order c = order_in_place c.args.self.now.by_mask.entries c.args.self.now.order.items c.args.place c.insert.new.self c.args.self.now.placed

pub settle-requires-clause-within : goal.settle-requires-clause-within
settle-requires-clause-within c =
    let same_length = length-set_value_at c.args.self.now.by_mask.entries c.args.place c.insert.new.self in
    let within = c.requires.within in
    omega (arith, same_length, within)

pub invariant_of-self-2 : goal.invariant_of-self-2
invariant_of-self-2 c =
    let es = c.args.self.now.by_mask.entries in
    record {
      keyed = keyed_in_place es c.args.place c.index_mut.result.now c.insert.new.self c.index_mut.ensures.value c.insert.ensures.mask c.args.self.now.keyed;
      placed = c.settle.ensures.order;
    }

pub returns-clause-ok : goal.returns-clause-ok
returns-clause-ok c rs r are is of_rank =
    let es = c.args.self.now.by_mask.entries in
    let ss = values c.args.self.now.by_mask in
    let order = c.args.self.now.order.items in
    let s = c.index_mut.result.now in
    let t = c.insert.new.self in
    let at = c.index_mut.ensures.value in
    let same_mask : same (bits s.staged.mask) r.matching.mask ≡ true = ap (same (bits s.staged.mask)) (ap (λ m. m.mask) is) ∙ c.requires.mask s at in
    record {
      subtables = rules_written es order c.args.place s t at (rs ++ r ∷ [])
          (insert_in_place ss rs c.args.place s t r are.subtables at (ap bits c.insert.ensures.mask) same_mask
          (c.in_ok-insert.ensures.ok (of_mask (bits s.staged.mask) rs) r (are.subtables.each c.args.place s at) is of_rank));
      falling = c.settle.ensures.falling (falls_but es order c.args.place s t at are.falling)
          (falls_alike es order c.args.place s t at c.index.result.now c.greatest-before.result c.index.ensures c.greatest-before.ensures are.falling);
    }
