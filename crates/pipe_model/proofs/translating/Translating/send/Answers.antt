use Rattle.std.proofs.Common.{◌≤◌, List, length, map, sym, subst, length-take, arith}
use Rattle.std.proofs.lemmas.Result.{on_ok_weaker}
use Rattle.spec_actions.specs.declared.action.DpAction.{DpAction}
use Rattle.spec_actions.specs.declared.action.DpAction.TheVariants.{Output}
use Rattle.pipe_model.specs.States.{state_of}
use Rattle.pipe_model.specs.Modes.{mode_of}
use Rattle.pipe_model.proofs.Emitting.{sent_by_code}
use Rattle.pipe_model.proofs.translating.Translating.send.Goals as goal

pub invariant_of-self : goal.invariant_of-self
invariant_of-self c = record {
  few = subst (λ (xs : List DpAction). length xs ≤ 128) (sym c.cut_off-self.ensures.actions) (omega (arith, length-take 128 c.append_outputs-appended.new.actions));
}

pub returns : goal.returns
returns c =
    on_ok_weaker c.append_outputs-appended.result
    (λ e. sent_by_code (map Output c.args.ports.now) (state_of c.args.self.now) c.append_outputs-appended.new.actions c.cut_off-self.new.actions (mode_of c.cut_off-self.result) c.args.self.now.few e c.cut_off-self.ensures.actions c.cut_off-self.ensures.mode)
    c.append_outputs-appended.ensures
