use Rattle.exec_laws.proofs.checksums.Law.{final-right}
use Rattle.exec_laws.proofs.checksums.transports.checksums_over_a_final_destination_stay_right.Goals as goal

pub returns : goal.returns
returns c f value mask frame bytes to begin words way has right =
    final-right frame bytes f value mask to words begin way.ipv6 way.routed has right
