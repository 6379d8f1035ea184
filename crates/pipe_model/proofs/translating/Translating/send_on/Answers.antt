use Rattle.std.proofs.Common.{◌≡◌, ◌≤◌, ℕ, List, length, map, sym, ap, ◌∙◌, subst, length-take, arith}
use Rattle.std.proofs.lemmas.Result.{on_ok_weaker}
use Rattle.spec_actions.specs.declared.action.DpAction.{DpAction}
use Rattle.spec_actions.specs.declared.action.DpAction.TheVariants.{Output}
use Rattle.spec_xlate.specs.Translation.{other_ports, emit_all, committed}
use Rattle.ovs_fields.specs.Packed.{numbers}
use Rattle.pipe_model.specs.Modes.{mode_of}
use Rattle.pipe_model.specs.Others.{others_of}
use Rattle.pipe_model.specs.States.{state_of, without_rules}
use Rattle.pipe_model.proofs.Acting.{output_all-sent, output_all-none}
use Rattle.pipe_model.proofs.Emitting.{sent_by_code}
use Rattle.pipe_model.proofs.Others.{others-some, others-none}
use Rattle.pipe_model.proofs.translating.Translating.send_on.Goals as goal

pub invariant_of-self : goal.invariant_of-self
invariant_of-self c = record {
  few = subst (λ (xs : List DpAction). length xs ≤ 128) (sym c.cut_off-self.ensures.actions) (omega (arith, length-take 128 c.append_outputs_but-appended.new.actions));
}

pub returns-then-not-has_others : goal.returns-then-not-has_others
returns-then-not-has_others c =
    let ports = c.args.ports.now in
    let same : others_of c.in_port-in_port.result ports ≡ other_ports (without_rules ports) (numbers c.args.self.now.current) = ap (λ (n : ℕ). others_of n ports) c.in_port-in_port.ensures in
    output_all-none (other_ports (without_rules ports) (numbers c.args.self.now.current)) (state_of c.args.self.now)
    (sym same ∙ others-none c.in_port-in_port.result ports (sym c.if-not-has_others.ensures))

pub returns : goal.returns
returns c =
    let ports = c.args.ports.now in
    let s = state_of c.args.self.now in
    let same : others_of c.in_port-in_port.result ports ≡ other_ports (without_rules ports) (numbers c.args.self.now.current) = ap (λ (n : ℕ). others_of n ports) c.in_port-in_port.ensures in
    let outputs = map Output (others_of c.in_port-in_port.result ports) in
    on_ok_weaker c.append_outputs_but-appended.result
    (λ e. output_all-sent (other_ports (without_rules ports) (numbers c.args.self.now.current)) s (record s { base = s.current; actions = c.cut_off-self.new.actions; mode = mode_of c.cut_off-self.result })
    (λ none. others-some c.in_port-in_port.result ports (sym c.if-not-has_others.ensures) (same ∙ none))
    (sent_by_code outputs s c.append_outputs_but-appended.new.actions c.cut_off-self.new.actions (mode_of c.cut_off-self.result) c.args.self.now.few e c.cut_off-self.ensures.actions c.cut_off-self.ensures.mode
    ∙ ap (λ (ps : List ℕ). emit_all (map Output ps) (committed s)) same))
    c.append_outputs_but-appended.ensures
