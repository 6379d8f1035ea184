use Rattle.std.proofs.Common.{◌≡◌}
use Rattle.std.specs.Prelude.{map}
use Rattle.std.specs.List.{range_with_len}
use Rattle.spec_input.specs.Made.{trace_made}
use Rattle.trace_gen.specs.Made.{trace_view}
use Rattle.trace_gen.proofs.made.traces_made.Given as goal

abbrev pub invariant-ports : goal.invariant-ports
invariant-ports l =
    map trace_view l.traces.items ≡ map (λ port. (port, trace_made l.fn.number port)) (range_with_len 1 l.place)
