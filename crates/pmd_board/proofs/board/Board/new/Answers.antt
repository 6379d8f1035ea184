use Rattle.std.proofs.Common.{rules, arith, vec_len, ◌≡◌, ◌<◌, ◌^◌, [], length, replicate, refl, sym, ap, ◌∙◌}
use Rattle.std.proofs.lemmas.List.{length-replicate}
use Rattle.spec_case.specs.Run.{Run, frames_of}
use Rattle.board_laws.proofs.PlaceLaws.{none_pending_yet}
use Rattle.pmd_board.specs.declared.place.Place.TheVariants as rust_place
use Rattle.pmd_board.proofs.HeldLists.{waits_alike, names_none}
use Rattle.pmd_board.proofs.Pushed.{opened_keeps}
use Rattle.pmd_board.proofs.board.Board.new.Goals as goal

pub invariant_of-result : goal.invariant_of-result
invariant_of-result g c =
    let run : Run = g.C.Case.run in
    let port = c.args.port in
    let n = length (frames_of run port) in
    let places : c.in_ok-vec.field-0.items ≡ replicate n rust_place.Waiting = search rules in
    let reserve = c.in_ok-reserve.ensures in
    let no_steps : c.reserve.new.self.items ≡ [] = reserve.items ∙ c.new-journal.ensures.items in
    let bounds = c.in_ok-blocks.ensures in
    let few : vec_len c.in_ok-blocks.blocks < 2 ^ 32 = search rules in
    let caches = c.in_ok-new.ensures in
    let empty = caches.empty n in
    let none : c.new.result ≡ [] = c.new.ensures in
    opened_keeps run _ c.requires c.args.run.now.bundled c.args.run.now.in_order no_steps
    (record { block = refl; newest = refl; floor = refl; done = refl; is_sweeping = refl })
    (record {
      next = refl;
      clock = refl;
      pending = none_pending_yet n;
      views = rw places (sym (waits_alike c.in_ok-new.field-0.lists n));
      named = rw places (names_none c.in_ok-new.field-0.lists n);
    })
    (record {
      caches = empty;
      listed = sym none;
      rules = caches.rules ∙ c.edit_count.ensures.count;
      made = (let made = empty.made in omega (arith, made));
    })
    bounds
    (record {
      few_places = omega (arith, c.in_ok-vec.ensures.len, c.frames-frames.ensures.bound);
      few_blocks = few;
      few_entries = (let limit = caches.limit in let fits = c.ranges.flow_limit.fits in omega (arith, limit, fits));
      few_listed = rw none (omega arith);
      places = (
          let count = ap length places ∙ length-replicate n rust_place.Waiting in
          omega (arith, count, c.in_ok-vec.ensures.len, c.frames-frames.ensures.count));
      short = c.frames-frames.ensures.short;
      steps = (
          let room = reserve.ok in
          omega (arith, room, reserve.len, c.new-journal.ensures.len, c.in_ok-vec.ensures.len, c.frames-frames.ensures.count, c.len.ensures, few, bounds.count));
      lists = rw none (omega arith);
    })
