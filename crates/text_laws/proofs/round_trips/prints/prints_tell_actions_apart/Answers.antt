-- Each is read of its print.
use Rattle.std.proofs.Common.{◌≡◌, List, [], refl, ap, ◌∙◌, Result, Ok}
use Rattle.spec_actions.specs.declared.action.OfAction.{OfAction}
use Rattle.spec_flow_text.specs.declared.fault.TextFault.{TextFault}
use Rattle.spec_flow_text.specs.Actions.{read_actions}
use Rattle.spec_flow_text.specs.Printed.{actions_printed}
use Rattle.text_laws.proofs.round_trips.prints.prints_tell_actions_apart.Goals as goal

pub returns-clause-alike : goal.returns-clause-alike
returns-clause-alike c at place line text actions others h k e = ap actions_printed e

same_list : (xs ys : List OfAction) (r : Result (List OfAction) TextFault) → r ≡ Ok xs → r ≡ Ok ys → xs ≡ ys
same_list xs ys r h k = cc

pub returns-clause-apart : goal.returns-clause-apart
returns-clause-apart c at place line text actions others h k again too e =
    let first = c.read_actions_read_back.ensures at line actions h again [] refl in
    let second = c.read_actions_read_back.ensures place text others k too [] refl in
    same_list actions others (read_actions 0 (actions_printed actions)) first (ap (read_actions 0) e ∙ second)
