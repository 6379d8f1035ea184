use Rattle.net_bytes.proofs.OnesComplement.{recomputed}
use Rattle.net_bytes.proofs.checksum.update_is_recomputing.Goals as goal

pub returns : goal.returns
returns c = recomputed
