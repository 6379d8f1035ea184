use Rattle.action_text.proofs.printing.print_action.Goals as goal

pub returns-in-Output : goal.returns-in-Output
returns-in-Output c = rw c.in-Output.is (rw c.from.ensures at c.print_number_after.ensures)

pub returns-in-OutputField : goal.returns-in-OutputField
returns-in-OutputField c = rw c.in-OutputField.is c.print_slice_after.ensures

pub returns-in-InPort : goal.returns-in-InPort
returns-in-InPort c = rw c.in-InPort.is c.print_word.ensures

pub returns-in-All : goal.returns-in-All
returns-in-All c = rw c.in-All.is c.print_word-in-All.ensures

pub returns-in-Flood : goal.returns-in-Flood
returns-in-Flood c = rw c.in-Flood.is c.print_word-in-Flood.ensures

pub returns-in-Resubmit : goal.returns-in-Resubmit
returns-in-Resubmit c = rw c.in-Resubmit.is c.print_resubmit.ensures

pub returns-in-Goto : goal.returns-in-Goto
returns-in-Goto c = rw c.in-Goto.is (rw c.from-in-Goto.ensures at c.print_number_after-in-Goto.ensures)

pub returns-in-Set : goal.returns-in-Set
returns-in-Set c = rw c.in-Set.is c.print_set.ensures

pub returns-in-Move : goal.returns-in-Move
returns-in-Move c = rw c.in-Move.is c.print_move.ensures

pub returns-in-DecTtl : goal.returns-in-DecTtl
returns-in-DecTtl c = rw c.in-DecTtl.is c.print_word-in-DecTtl.ensures

pub returns-in-PushVlan : goal.returns-in-PushVlan
returns-in-PushVlan c = rw c.in-PushVlan.is c.print_push.ensures

pub returns-in-PopVlan : goal.returns-in-PopVlan
returns-in-PopVlan c = rw c.in-PopVlan.is c.print_word-in-PopVlan.ensures

pub returns-in-SetVid : goal.returns-in-SetVid
returns-in-SetVid c = rw c.in-SetVid.is (rw c.from-in-SetVid.ensures at c.print_number_after-in-SetVid.ensures)

pub returns-in-SetPcp : goal.returns-in-SetPcp
returns-in-SetPcp c = rw c.in-SetPcp.is (rw c.from-in-SetPcp.ensures at c.print_number_after-in-SetPcp.ensures)
