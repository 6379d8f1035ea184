use Rattle.std.proofs.Common.{arith}
use Rattle.ovs_fields.specs.Packed.{bits}
use Rattle.megaflow_table.proofs.OrderLaws.{none_counted}
use Rattle.megaflow_table.proofs.HitLaws.{written_keeps, written_counts, written_ranked, moved_keeps, moved_counts, moved_ranked}
use Rattle.indexmap.proofs.CallerLemmas.{index_map_len-with_value_at}
use Rattle.megaflow_table.proofs.ranks.count_hit.Goals as goal

pub returns-in_default-clause-order : goal.returns-in_default-clause-order
returns-in_default-clause-order c = none_counted c.args.subtables.now (bits c.args.mask.now) (c.place_of.ensures.none c.in_default.is)

pub swap_indices-requires-clause-a_in_bounds : goal.swap_indices-requires-clause-a_in_bounds
swap_indices-requires-clause-a_in_bounds c =
    let long = index_map_len-with_value_at c.args.subtables.now c.in-Some.place (record c.pair_mut-subtable.result.1.now { hits = c.saturating_add-subtable.result }) in
    omega (arith, long, c.in-Some.ensures.within)

pub swap_indices-requires-clause-b_in_bounds : goal.swap_indices-requires-clause-b_in_bounds
swap_indices-requires-clause-b_in_bounds c =
    let long = index_map_len-with_value_at c.args.subtables.now c.in-Some.place (record c.pair_mut-subtable.result.1.now { hits = c.saturating_add-subtable.result }) in
    omega (arith, long, c.in-Some.ensures.within)

pub returns-then-first-place-clause-keeps : goal.returns-then-first-place-clause-keeps
returns-then-first-place-clause-keeps c =
    moved_keeps c.args.subtables.now c.args.mask.now c.in-Some.place c.pair_mut-subtable.result.0.now c.pair_mut-subtable.result.1.now c.saturating_add-subtable.result
    c.in-Some.ensures.mask c.pair_mut-subtable.ensures.value c.pair_mut-subtable.ensures.unique c.saturating_add-subtable.ensures
    c.first_equal-first.result (omega arith) c.requires.was_ranked c.first_equal-first.ensures.at_most c.first_equal-first.ensures.before c.first_equal-first.ensures.equal
    c.swap_indices.new.self c.swap_indices.ensures.entries c.swap_indices.ensures.reordered c.swap_indices.ensures.room.0

pub returns-then-first-place-clause-order : goal.returns-then-first-place-clause-order
returns-then-first-place-clause-order c =
    moved_counts c.args.subtables.now c.args.mask.now c.in-Some.place c.pair_mut-subtable.result.0.now c.pair_mut-subtable.result.1.now c.saturating_add-subtable.result
    c.in-Some.ensures.mask c.pair_mut-subtable.ensures.value c.pair_mut-subtable.ensures.unique c.saturating_add-subtable.ensures
    c.first_equal-first.result (omega arith) c.requires.was_ranked c.first_equal-first.ensures.at_most c.first_equal-first.ensures.before c.first_equal-first.ensures.equal
    c.swap_indices.new.self c.swap_indices.ensures.entries c.swap_indices.ensures.reordered c.swap_indices.ensures.room.0

pub returns-then-first-place-clause-ranked : goal.returns-then-first-place-clause-ranked
returns-then-first-place-clause-ranked c =
    moved_ranked c.args.subtables.now c.args.mask.now c.in-Some.place c.pair_mut-subtable.result.0.now c.pair_mut-subtable.result.1.now c.saturating_add-subtable.result
    c.in-Some.ensures.mask c.pair_mut-subtable.ensures.value c.pair_mut-subtable.ensures.unique c.saturating_add-subtable.ensures
    c.first_equal-first.result (omega arith) c.requires.was_ranked c.first_equal-first.ensures.at_most c.first_equal-first.ensures.before c.first_equal-first.ensures.equal
    c.swap_indices.new.self c.swap_indices.ensures.entries c.swap_indices.ensures.reordered c.swap_indices.ensures.room.0 c.if-first-place.true

pub returns-else-first-place-clause-keeps : goal.returns-else-first-place-clause-keeps
returns-else-first-place-clause-keeps c =
    written_keeps c.args.subtables.now c.args.mask.now c.in-Some.place c.pair_mut-subtable.result.0.now c.pair_mut-subtable.result.1.now c.saturating_add-subtable.result
    c.in-Some.ensures.mask c.pair_mut-subtable.ensures.value c.pair_mut-subtable.ensures.unique c.saturating_add-subtable.ensures

pub returns-else-first-place-clause-order : goal.returns-else-first-place-clause-order
returns-else-first-place-clause-order c =
    written_counts c.args.subtables.now c.args.mask.now c.in-Some.place c.pair_mut-subtable.result.0.now c.pair_mut-subtable.result.1.now c.saturating_add-subtable.result
    c.in-Some.ensures.mask c.pair_mut-subtable.ensures.value c.pair_mut-subtable.ensures.unique c.saturating_add-subtable.ensures

pub returns-else-first-place-clause-ranked : goal.returns-else-first-place-clause-ranked
returns-else-first-place-clause-ranked c =
    written_ranked c.args.subtables.now c.args.mask.now c.in-Some.place c.pair_mut-subtable.result.0.now c.pair_mut-subtable.result.1.now c.saturating_add-subtable.result
    c.in-Some.ensures.mask c.pair_mut-subtable.ensures.value c.pair_mut-subtable.ensures.unique c.saturating_add-subtable.ensures
    c.first_equal-first.result (omega arith) c.requires.was_ranked c.first_equal-first.ensures.at_most c.first_equal-first.ensures.before c.first_equal-first.ensures.equal c.if-first-place.false
