use Rattle.text_laws.proofs.round_trips.matches_read.read_match_reads_back.Goals as goal

pub returns-clause-alone : goal.returns-clause-alone
returns-clause-alone c word at line t h =
    c.printed_match_reads_back.ensures.alone t.matching (c.read_match_can_be_spelled.ensures word at line t h)

pub returns-clause-before_actions : goal.returns-clause-before_actions
returns-clause-before_actions c word at line list t h plain =
    c.printed_match_reads_back.ensures.before_actions t.matching list (c.read_match_can_be_spelled.ensures word at line t h) plain
