use Rattle.dp_actions.proofs.changes.+append_pops.Given as goal

abbrev pub decreases-append_pops : goal.decreases-append_pops
decreases-append_pops l = l.count
