-- Where a frame of the run came in.
use Rattle.spec_case.specs.declared.arrival.Arrival.{Arrival}
use Rattle.spec_case.specs.Run.{Run}
use Rattle.run_case.specs.Places.{HasPort, HasPlace}

-- A frame of the run came in there.
pub record IsArrival (run : Run) (a : Arrival) : Type 0 where
  pub port : HasPort run.ports a.port
  pub place : HasPlace run a.port a.place
