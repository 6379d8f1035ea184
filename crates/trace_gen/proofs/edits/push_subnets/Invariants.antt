use Rattle.std.proofs.Common.{◌≡◌, ◌*◌, ◌++◌, string_bytes}
use Rattle.spec_input.specs.Made.{state, subnet_draws, subnet_lines}
use Rattle.trace_gen.proofs.edits.push_subnets.Given as goal

abbrev pub invariant-subnets : goal.invariant-subnets
invariant-subnets l = record {
  text : string_bytes l.text ≡ string_bytes l.fn.text ++ subnet_lines l.fn.number l.place;
  state : l.draws.state ≡ state l.fn.number (subnet_draws * l.place);
}
