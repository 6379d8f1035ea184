use Rattle.std.proofs.Common.{◌≡◌, ◌+◌, ◌*◌, ap, ◌∙◌, arith}
use Rattle.spec_input.specs.Made.{state, subnet_draws}
use Rattle.trace_gen.proofs.States.{state-at}
use Rattle.trace_gen.proofs.Pieces.{subnet-none, subnet-more}
use Rattle.trace_gen.proofs.edits.push_subnets.Goals as goal

pub subnets-init : goal.subnets-init
subnets-init c = record { text = subnet-none _ _; state = c.of-draws.ensures }

pub subnets-preserved : goal.subnets-preserved
subnets-preserved c =
    let now = c.subnets.invariant in
    let drawn = c.draw_subnet-subnet.ensures in
    let next : subnet_draws * c.subnets.place + subnet_draws ≡ subnet_draws * (c.subnets.place + 1) = omega arith in
    record {
      text = subnet-more _ _ _ _ _ _ now.state drawn.subnet.0 drawn.subnet.1.0 drawn.subnet.1.1 _ _ _ now.text c.in_ok-push_subnet.ensures;
      state = state-at _ _ _ _ _ now.state drawn.state ∙ ap (state c.args.number) next;
    }
