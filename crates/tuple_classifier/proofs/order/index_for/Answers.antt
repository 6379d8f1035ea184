use Rattle.std.proofs.Common.{◌≡◌, ◌+◌, ◌-◌, ◌/◌, slice_get, get_or, Some, arith}
use Rattle.std.proofs.lemmas.Option.{slice_get-get_or}
use Rattle.indexmap.specs.IndexMap.{values, index_map_len}
use Rattle.tuple_classifier.proofs.KeptLaws.{subtable_at}
use Rattle.tuple_classifier.proofs.OrderLaws.{all_before, all_behind}
use Rattle.tuple_classifier.proofs.PlacedLaws.{place_within}
use Rattle.tuple_classifier.proofs.order.index_for.Goals as goal

pub is_above-requires-clause-other_within : goal.is_above-requires-clause-other_within
is_above-requires-clause-other_within c =
    let middle = c.halves.low + (c.halves.high - c.halves.low) / 2 in
    let less = c.halves-test.true in
    let within = c.halves.invariant.within in
    place_within (index_map_len c.args.by_mask.now) c.args.order.now c.requires.places middle (get_or c.args.order.now middle 0) (slice_get-get_or c.args.order.now middle 0 (omega (arith, less, within)))

pub halves-preserved-then-is_above : goal.halves-preserved-then-is_above
halves-preserved-then-is_above c =
    let middle = c.halves.low + (c.halves.high - c.halves.low) / 2 in
    let less = c.halves-test.true in
    let within = c.halves.invariant.within in
    let p = get_or c.args.order.now middle 0 in
    let at_middle : slice_get c.args.order.now middle ≡ Some p = slice_get-get_or c.args.order.now middle 0 (omega (arith, less, within)) in
    let s = subtable_at c.args.by_mask.now.entries p (place_within (index_map_len c.args.by_mask.now) c.args.order.now c.requires.places middle p at_middle) in
    record {
      ordered = omega (arith, less);
      within = omega (arith, less, within);
      before = c.halves.invariant.before;
      behind = λ falling i q u t le at_i at_q at.
          all_behind (values c.args.by_mask.now) c.args.order.now t middle p s.0 at_middle s.1 falling (c.is_above.ensures.above c.if-is_above.true t s.0 at s.1) i q u le at_i at_q;
    }

pub halves-preserved : goal.halves-preserved
halves-preserved c =
    let middle = c.halves.low + (c.halves.high - c.halves.low) / 2 in
    let less = c.halves-test.true in
    let within = c.halves.invariant.within in
    let p = get_or c.args.order.now middle 0 in
    let at_middle : slice_get c.args.order.now middle ≡ Some p = slice_get-get_or c.args.order.now middle 0 (omega (arith, less, within)) in
    let s = subtable_at c.args.by_mask.now.entries p (place_within (index_map_len c.args.by_mask.now) c.args.order.now c.requires.places middle p at_middle) in
    record {
      ordered = omega (arith, less);
      within = within;
      before = λ falling i q u t lt at_i at_q at.
          all_before (values c.args.by_mask.now) c.args.order.now t middle p s.0 at_middle s.1 falling (c.is_above.ensures.not_above c.if-is_above.false t s.0 at s.1) i q u lt at_i at_q;
      behind = c.halves.invariant.behind;
    }

pub returns-clause-behind : goal.returns-clause-behind
returns-clause-behind c falling i p s t le at_i at_p at =
    let done = c.halves-test.false in
    c.halves.invariant.behind falling i p s t (omega (arith, done, le)) at_i at_p at
