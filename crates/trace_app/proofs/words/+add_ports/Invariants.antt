use Rattle.trace_app.proofs.words.+add_ports.Given as goal

abbrev pub decreases-add_ports : goal.decreases-add_ports
decreases-add_ports l = l.room
