use Rattle.std.proofs.Common.{◌≡◌}
use Rattle.spec_input.specs.Made.{state}
use Rattle.trace_gen.proofs.draws.Draws.pass.Given as goal

abbrev pub invariant-draws : goal.invariant-draws
invariant-draws l = l.self.state ≡ state l.fn.self.state l.counter
