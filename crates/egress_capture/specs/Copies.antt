-- What a mirror copies of a frame that goes out.
use Rattle.std.specs.Prelude.{ℕ, List, Option}
use Rattle.spec_pcap.specs.Pcap.{Frame}
use Rattle.spec_case.specs.declared.arrival.Arrival.{Arrival}
use Rattle.spec_case.specs.Run.{Run, frame_at}
use Rattle.spec_board.specs.Texts.{Journal}
use Rattle.egress_capture.specs.Filters.{actions_at}
use Rattle.egress_capture.specs.Sending.{first_frame_to}

-- an arrived frame as it first goes out at one of some ports, if it goes out at one
abbrev pub first_copy : Run → List Journal → List ℕ → Arrival → Option Frame
first_copy run journals ports a =
    let frame = frame_at run a.port a.place in
    first_frame_to ports frame.time (actions_at run journals a) frame.bytes
