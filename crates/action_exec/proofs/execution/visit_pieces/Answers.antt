use Rattle.std.proofs.Common.{◌∷◌, rules, of_calls, ap, ◌∙◌, arith}
use Rattle.spec_actions.specs.declared.action.DpAction.{DpAction}
use Rattle.action_exec.proofs.Visits.{when_ok, no-visits, visits-output, visits-other, room-cons}
use Rattle.action_exec.proofs.execution.visit_pieces.Goals as goal

pub actions-preserved-in-Output : goal.actions-preserved-in-Output
actions-preserved-in-Output g c =
    let parts = c.in-Some.ensures.cases.0 in
    let first = parts ∙ ap (λ (a : DpAction). a ∷ c.in-Some.tail.now) c.in-Output.is in
    let room = room-cons c.actions.rest.now c.in-Some.tail.now c.in-Some.action.now parts in
    record {
      callable = search (of_calls, rules);
      room = omega (arith, room, c.actions.invariant.room);
      so_far = λ last others. c.actions.invariant.so_far last
          (rw (← c.deref.ensures.value) (visits-output g.F.FnMut c.actions.visit c.visit.new.self last c.actions.rest.now c.in-Some.tail.now c.in-Output.port c.deref.result first c.visit.ensures
          (rw c.deref.ensures.value others)));
    }

pub actions-preserved : goal.actions-preserved
actions-preserved g c =
    let parts = c.in-Some.ensures.cases.0 in
    let room = room-cons c.actions.rest.now c.in-Some.tail.now c.in-Some.action.now parts in
    let ran = when_ok c.run_action-ran.result _ c.if-prove.ensures.value c.run_action-ran.ensures.ok in
    record {
      callable = c.actions.invariant.callable;
      room = omega (arith, room, c.actions.invariant.room, c.run_action-ran.ensures.len, c.run_action-ran.ensures.capacity);
      so_far = λ last others. c.actions.invariant.so_far last
          (visits-other g.F.FnMut c.actions.visit last c.actions.rest.now c.in-Some.tail.now c.in-Some.action.now c.actions.frame.items parts c.in_default-action.not-Output
          (rw ran at others));
    }

pub returns : goal.returns
returns g c =
    c.actions.invariant.so_far c.actions.visit
    (no-visits g.F.FnMut c.actions.visit c.actions.rest.now c.actions.frame.items c.in_default.ensures.cases)
