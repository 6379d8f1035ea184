use Rattle.std.proofs.Common.{◌≡◌, ℕ, false, take, All}
use Rattle.std.specs.Int.{bit_at}
use Rattle.egress_capture.specs.Filters.{bit_of}
use Rattle.egress_capture.specs.Sending.{sends_to}
use Rattle.egress_capture.proofs.port_filter.bits_of.Given as goal

abbrev pub invariant-actions : goal.invariant-actions
invariant-actions l =
    (port : ℕ) → bit_at l.bits (bit_of port) ≡ 0 → All (λ a. sends_to port a ≡ false) (take l.action-index l.actions)
