use Rattle.spec_xlate.specs.Consulted.{act_bits}
use Rattle.xlate_pipeline.proofs.consulting.consult.Goals as goal

pub returns-in-Move : goal.returns-in-Move
unfolding act_bits
returns-in-Move c = rw c.in-Move.is c.consult_move.ensures

pub returns-in-DecTtl : goal.returns-in-DecTtl
unfolding act_bits
returns-in-DecTtl c = rw c.in-DecTtl.is c.consult_ttl.ensures
