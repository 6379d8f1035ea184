use Rattle.text_laws.proofs.round_trips.actions_read.read_actions_read_back.Goals as goal

pub returns : goal.returns
returns c at line actions h again front clean =
    c.printed_actions_read_back.ensures.behind front actions clean (c.read_actions_can_be_spelled.ensures at line actions h again)
