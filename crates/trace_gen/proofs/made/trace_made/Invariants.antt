use Rattle.std.proofs.Common.{◌≡◌, ◌+◌, ◌-◌, ◌*◌}
use Rattle.spec_input.specs.Made.{state, subnet_draws, subnets, ports, frame_draws, trace_of}
use Rattle.trace_gen.proofs.made.trace_made.Given as goal

abbrev pub invariant-frames : goal.invariant-frames
invariant-frames l = record {
  bytes : l.bytes.items ≡ trace_of l.fn.number l.fn.port l.n;
  state : l.draws.state ≡ state l.fn.number (subnet_draws * subnets + frame_draws * (ports * l.n + (l.fn.port - 1)));
}
