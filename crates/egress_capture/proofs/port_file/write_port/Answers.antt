use Rattle.egress_capture.proofs.port_file.write_port.Goals as goal

pub write_file-requires-clause-fills : goal.write_file-requires-clause-fills
write_file-requires-clause-fills g c = (_, λ before r after created call. call)

pub returns : goal.returns
returns g c = c.write_file.ensures.file _ (λ before r after created call. call)
