use Rattle.exec_laws.proofs.checksums.Law.{header-right}
use Rattle.exec_laws.proofs.checksums.headers.ipv4_header_checksums_stay_right.Goals as goal

pub returns : goal.returns
returns c f value mask frame bytes right = header-right frame bytes f value mask right
