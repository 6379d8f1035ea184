use Rattle.flow_dump.proofs.boards.write_dump.Goals as goal

pub write_file-requires-clause-fills : goal.write_file-requires-clause-fills
write_file-requires-clause-fills g c = (_, λ before r after created call. call.0)

pub returns-clause-file : goal.returns-clause-file
returns-clause-file g c = c.write_file.ensures.file _ (λ before r after created call. call.0)
