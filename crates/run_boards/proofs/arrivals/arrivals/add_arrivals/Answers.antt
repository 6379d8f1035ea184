use Rattle.std.proofs.Common.{arith}
use Rattle.spec_case.specs.Run.{frames_of}
use Rattle.run_boards.proofs.arrivals.Places.{next_arrival, last_arrival}
use Rattle.run_boards.proofs.arrivals.arrivals.add_arrivals.Goals as goal

pub places-preserved : goal.places-preserved
places-preserved g c =
    next_arrival c.args.port (frames_of g.C.Case.run c.args.port) c.places.before c.time.result c.places.arrivals.items _ _ (omega (arith, c.frames-before-end.ensures.count)) c.time.ensures.time c.in_ok-push.ensures.items c.places.invariant

pub returns : goal.returns
returns g c =
    last_arrival c.args.port c.places.before (frames_of g.C.Case.run c.args.port) _ _ (omega (arith, c.frames-before-end.ensures.count)) c.places.invariant
