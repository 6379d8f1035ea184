-- Runs whose numbers have room in the export of flows.
use Rattle.std.specs.Prelude.{◌^◌, ◌<◌, length, All}
use Rattle.spec_case.specs.Run.{Run}
use Rattle.spec_netflow.specs.Flows.{came_in}
use Rattle.board_laws.specs.Entries.{AreOfBytes}

-- Each port is a number of 16 bits, the frames that come in there are made of bytes, and there are fewer of all than a field of
-- 32 bits can count.
pub record HasWidths (run : Run) : Type 0 where
  pub each : All (AreOfBytes run) run.ports
  pub few : length (came_in run) < 2 ^ 32
