use Rattle.exec_laws.proofs.checksums.Law.{transport-right}
use Rattle.exec_laws.proofs.checksums.transports.transport_checksums_stay_right.Goals as goal

pub returns : goal.returns
returns c f value mask frame bytes has direct right = transport-right frame bytes f value mask direct has right
