use Rattle.netflow_v5.proofs.export.write_netflow.Goals as goal

pub write_file-requires-clause-fills : goal.write_file-requires-clause-fills
write_file-requires-clause-fills g c = (_, λ before r after created call. call)

pub returns : goal.returns
returns g c = record { file = c.write_file.ensures.file _ (λ before r after created call. call) }
