use Rattle.egress_capture.proofs.port_file.send_decided.Goals as goal

pub returns-clause-writes : goal.returns-clause-writes
returns-clause-writes g c = rw (← c.frame-frame.ensures.time, ← c.frame-frame.ensures.bytes, ← c.frame-frame.ensures.actions) c.send.ensures.writes
