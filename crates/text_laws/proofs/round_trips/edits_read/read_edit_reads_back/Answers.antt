use Rattle.text_laws.proofs.round_trips.EditTexts.{edit_matching, edit_actions}
use Rattle.text_laws.proofs.round_trips.edits_read.read_edit_reads_back.Goals as goal

pub returns-clause-flow : goal.returns-clause-flow
returns-clause-flow c line e h respelled =
    c.printed_flow_reads_back.ensures.flow e.matching e.actions
    (edit_matching c.read_match_can_be_spelled.ensures line e h) (edit_actions c.read_actions_can_be_spelled.ensures line e h respelled)

pub returns-clause-alone : goal.returns-clause-alone
returns-clause-alone c line e h =
    c.printed_flow_reads_back.ensures.alone e.matching (edit_matching c.read_match_can_be_spelled.ensures line e h)
