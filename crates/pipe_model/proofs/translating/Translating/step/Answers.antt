use Rattle.std.proofs.Common.{ℕ, ◌*◌, ap, ◌∙◌}
use Rattle.spec_xlate.specs.Translation.{act, emit_all, output, write_tag, pcp_unit, pcp_bits}
use Rattle.pipe_model.specs.States.{state_of, without_rules}
use Rattle.pipe_model.proofs.translating.Translating.step.Goals as goal

pub returns-in_ok-output-in-Output : goal.returns-in_ok-output-in-Output
unfolding act
returns-in_ok-output-in-Output c =
    rw c.in-Output.is (c.in_ok-output-in-Output.ensures ∙ ap (λ (n : ℕ). output (without_rules c.args.ports.now) n (state_of c.args.self.now)) c.from.ensures)

pub returns-in_ok-output-in-OutputField : goal.returns-in_ok-output-in-OutputField
unfolding act
returns-in_ok-output-in-OutputField c =
    rw c.in-OutputField.is (c.in_ok-output-in-OutputField.ensures ∙ ap (λ (n : ℕ). output (without_rules c.args.ports.now) n (state_of c.args.self.now)) c.read_slice-number.ensures.value)

pub returns-in_ok-send_back-in-InPort : goal.returns-in_ok-send_back-in-InPort
unfolding act emit_all
returns-in_ok-send_back-in-InPort c = rw c.in-InPort.is c.in_ok-send_back-in-InPort.ensures

pub returns-in_ok-send_on-in-All : goal.returns-in_ok-send_on-in-All
unfolding act
returns-in_ok-send_on-in-All c = rw c.in-All.is c.in_ok-send_on-in-All.ensures

pub returns-in_ok-send_on-in-Flood : goal.returns-in_ok-send_on-in-Flood
unfolding act
returns-in_ok-send_on-in-Flood c = rw c.in-Flood.is c.in_ok-send_on-in-Flood.ensures

pub returns-in-Resubmit : goal.returns-in-Resubmit
unfolding act
returns-in-Resubmit c = rw c.in-Resubmit.is

pub returns-in-Goto : goal.returns-in-Goto
unfolding act
returns-in-Goto c = rw c.in-Goto.is

pub returns-in-Set : goal.returns-in-Set
unfolding act
returns-in-Set c = rw c.in-Set.is c.write.ensures

pub returns-in-Move : goal.returns-in-Move
unfolding act
returns-in-Move c = rw c.in-Move.is c.copy_bits.ensures

pub returns-in-DecTtl : goal.returns-in-DecTtl
unfolding act
returns-in-DecTtl c = rw c.in-DecTtl.is c.lower_ttl.ensures

pub returns-in-PushVlan : goal.returns-in-PushVlan
unfolding act
returns-in-PushVlan c = rw c.in-PushVlan.is c.push_tag.ensures

pub returns-in-PopVlan : goal.returns-in-PopVlan
unfolding act
returns-in-PopVlan c = rw c.in-PopVlan.is c.pop_tag.ensures

pub returns-in-SetVid : goal.returns-in-SetVid
unfolding act
returns-in-SetVid c = rw c.in-SetVid.is c.write_tag.ensures

pub returns-in-SetPcp : goal.returns-in-SetPcp
unfolding act
returns-in-SetPcp c =
    rw c.in-SetPcp.is (c.write_tag-in-SetPcp.ensures ∙ ap (λ (p : ℕ). write_tag (p * pcp_unit) pcp_bits (state_of c.args.self.now)) c.from-in-SetPcp.ensures)
