use Rattle.std.proofs.Common.{◌∷◌, rules, of_calls, ap, ◌∙◌}
use Rattle.std.specs.Prelude.{IsTrue}
use Rattle.std.proofs.lemmas.List.Elements.{All-tail}
use Rattle.spec_actions.specs.declared.action.DpAction.{DpAction}
use Rattle.spec_exec.specs.Sent.{is_output}
use Rattle.action_exec.proofs.Visits.{no-visits, visits-output}
use Rattle.action_exec.proofs.execution.visit_outputs.Goals as goal

pub actions-preserved-in-Output : goal.actions-preserved-in-Output
actions-preserved-in-Output g c =
    let parts = c.in-Some.ensures.cases.0 in
    let first = parts ∙ ap (λ (a : DpAction). a ∷ c.in-Some.tail.now) c.in-Output.is in
    record {
      callable = search (of_calls, rules);
      outputs = All-tail (λ a. IsTrue (is_output a)) c.in-Some.action.now c.in-Some.tail.now (rw parts at c.actions.invariant.outputs);
      so_far = λ last others. c.actions.invariant.so_far last
          (visits-output g.F.FnMut c.actions.visit c.visit.new.self last c.actions.rest.now c.in-Some.tail.now c.in-Output.port c.args.frame first c.visit.ensures others);
    }

pub returns : goal.returns
returns g c =
    c.actions.invariant.so_far c.actions.visit
    (no-visits g.F.FnMut c.actions.visit c.actions.rest.now c.args.frame.now c.in_default.ensures.cases)
