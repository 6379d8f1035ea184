use Rattle.std.proofs.Common.{◌≡◌, suc, ◌+◌, [], ◌∷◌, drop, get_or, ◌∙◌, arith}
use Rattle.std.proofs.Math.Seq.{drop-cons}
use Rattle.std.proofs.Math.ListN.{drop_of_length-le}
use Rattle.spec_tables.specs.declared.sync_point.SyncPoint.{SyncPoint}
use Rattle.run_case.proofs.blocks.Walks.{ends_after-step, ends_after-last}
use Rattle.run_case.proofs.blocks.block_ends.block_ends.Goals as goal

pub loop-sync-preserved : goal.loop-sync-preserved
loop-sync-preserved c =
    let syncs = c.args.syncs.now in
    let i = c.loop-sync.sync-index in
    let none : SyncPoint = record { time = 0; after = 0 } in
    let s = get_or syncs i none in
    let found = c.loop-sync.ends.items in
    let next = c.end_of_block-place.result in
    let up : suc i ≡ i + 1 = omega arith in
    let more : drop i syncs ≡ s ∷ drop (i + 1) syncs = rw up at (drop-cons syncs i none c.loop-sync-test.true) in
    let step = ends_after-step found c.loop-sync.place next s (drop (i + 1) syncs) c.args.trace.now.frames c.end_of_block-place.ensures.end in
    record {
      within = c.end_of_block-place.ensures.within;
      len = omega arith;
      room = omega arith;
      so_far = rw c.push_reserved.ensures.items (step ∙ rw more at c.loop-sync.invariant.so_far);
    }

pub returns : goal.returns
returns c =
    let syncs = c.args.syncs.now in
    let was = c.loop-sync.invariant in
    let none : drop c.loop-sync.sync-index syncs ≡ [] = drop_of_length-le syncs c.loop-sync-test.false in
    let last = ends_after-last c.loop-sync.ends.items c.loop-sync.place c.args.trace.now.frames was.within in
    rw (c.push_reserved-2.ensures.items, c.len.ensures.count) (last ∙ rw none at was.so_far)
