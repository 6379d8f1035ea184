use Rattle.std.proofs.Common.{ℕ, ◌+◌, ◌≤◌, ◌==◌, ◌++◌, filter, map, sym, ap, ◌∙◌, arith}
use Rattle.spec_actions.specs.declared.action.DpAction.TheVariants.{Output}
use Rattle.spec_xlate.specs.Commit.{commit}
use Rattle.spec_xlate.specs.Translation.{rising}
use Rattle.ovs_fields.specs.Packed.{numbers}
use Rattle.pipe_model.specs.Others.{others_from, others_of}
use Rattle.pipe_model.proofs.Others.{next-first, next-from, next-none, outputs-next, outputs-done}
use Rattle.pipe_model.proofs.outputs.append_outputs_but.Goals as goal

pub numbers-smaller : goal.numbers-smaller
numbers-smaller c =
    let number = c.in-Some.number in
    let le : c.numbers.from ≤ number = next-from c.args.in_port c.numbers.from c.args.ports.now number (sym c.in-Some.ensures) in
    omega (arith, le, c.from-from.ensures)

pub numbers-preserved : goal.numbers-preserved
numbers-preserved c =
    let number = c.in-Some.number in
    let in_port = c.args.in_port in
    let ports = c.args.ports.now in
    outputs-next c.numbers.actions (c.args.actions.now ++ (commit (numbers c.args.base.now) (numbers c.args.current.now) ++ map Output (others_of in_port ports)))
    (others_from in_port c.numbers.from (rising ports)) c.numbers.invariant
    (filter (λ p. p == number) ports) (others_from in_port (c.from-from.result + 1) (rising ports)) c.append_outputs_to.new.actions
    (next-first in_port c.numbers.from ports number (sym c.in-Some.ensures) ∙ ap (λ (n : ℕ). filter (λ p. p == number) ports ++ others_from in_port (n + 1) (rising ports)) (sym c.from-from.ensures))
    c.in_ok-append_outputs_to.ensures

pub returns : goal.returns
returns c =
    let in_port = c.args.in_port in
    let ports = c.args.ports.now in
    outputs-done c.numbers.actions (c.args.actions.now ++ (commit (numbers c.args.base.now) (numbers c.args.current.now) ++ map Output (others_of in_port ports)))
    (others_from in_port c.numbers.from (rising ports)) c.numbers.invariant
    (next-none in_port c.numbers.from ports (sym c.next_other.ensures ∙ c.in_default.is))
