-- What the fields of a record have room for (Cisco, "NetFlow Export Datagram Formats", version 5).
use Rattle.std.specs.Prelude.{◌^◌, ◌<◌, List, length, All}
use Rattle.spec_case.specs.declared.arrival.Arrival.{Arrival}
use Rattle.spec_case.specs.Run.{Run, frame_at}
use Rattle.spec_netflow.specs.declared.flow_record.FlowRecord.{FlowRecord}
use Rattle.spec_netflow.specs.Flows.{Decided, came_in, first_output}

-- Each number of a record fits into its field.
pub record IsWithin (r : FlowRecord) : Type 0 where
  pub src : r.src < 2 ^ 32
  pub dst : r.dst < 2 ^ 32
  pub input : r.input < 2 ^ 16
  pub output : r.output < 2 ^ 16
  pub packets : r.packets < 2 ^ 32
  pub octets : r.octets < 2 ^ 32
  pub first : r.first < 2 ^ 32
  pub last : r.last < 2 ^ 32
  pub sport : r.sport < 2 ^ 16
  pub dport : r.dport < 2 ^ 16
  pub flags : r.flags < 2 ^ 8
  pub proto : r.proto < 2 ^ 8
  pub tos : r.tos < 2 ^ 8

abbrev pub AreWithin : List FlowRecord → Type 0
AreWithin records = All IsWithin records

-- A frame is made of bytes, came in at a port of 16 bits, and is sent first to such a port, if it is sent.
pub record IsOfWidths (run : Run) (decided : Decided) (a : Arrival) : Type 0 where
  pub bytes : All (λ byte. byte < 2 ^ 8) (frame_at run a.port a.place).bytes
  pub input : a.port < 2 ^ 16
  pub output : first_output (decided a.port a.place) < 2 ^ 16

-- Each frame of a run is such, and there are fewer than a field of 32 bits can count.
pub record AreOfWidths (run : Run) (decided : Decided) : Type 0 where
  pub each : All (IsOfWidths run decided) (came_in run)
  pub few : length (came_in run) < 2 ^ 32
