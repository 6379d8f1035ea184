-- Arrivals whose filters don't have the bit of a port: nothing of them goes out at it.
use Rattle.std.proofs.Common.{◌≡◌, ℕ, ◌<◌, List, [], length, get_or}
use Rattle.std.specs.Int.{bit_at}
use Rattle.spec_case.specs.declared.arrival.Arrival.{Arrival}
use Rattle.spec_case.specs.Run.{Run, frame_at}
use Rattle.spec_board.specs.Texts.{Journal}
use Rattle.spec_run.specs.Outputs.{sent_to}
use Rattle.egress_capture.specs.declared.port_filter.PortFilter.{PortFilter}
use Rattle.egress_capture.specs.Filters.{AreFilters, actions_at, bit_of}
use Rattle.egress_capture.proofs.Filters.{passed}

pub unsent : (run : Run) (journals : List Journal) (filters : List PortFilter) (port : ℕ) (came : List Arrival)
    (at : ℕ) (a : Arrival) (f : PortFilter) → AreFilters run journals came filters → at < length came
    → bit_at (get_or filters at f).bits (bit_of port) ≡ 0
    → sent_to run journals port (get_or came at a) ≡ []
unsent run journals filters port came at a f are lt absent =
    let arrival = get_or came at a in
    let frame = frame_at run arrival.port arrival.place in
    passed port frame.time (actions_at run journals arrival) frame.bytes (are.each at a f lt port absent)
