use Rattle.exec_laws.proofs.checksums.Law.{has-kept, absent-kept}
use Rattle.exec_laws.proofs.checksums.transports.udp_stays_with_or_without_a_checksum.Goals as goal

pub returns-clause-without : goal.returns-clause-without
returns-clause-without c f value mask frame bytes begin at over is none = absent-kept frame bytes f value mask begin at over is none

pub returns-clause-with_one : goal.returns-clause-with_one
returns-clause-with_one c f value mask frame bytes has = has-kept frame bytes f value mask has
