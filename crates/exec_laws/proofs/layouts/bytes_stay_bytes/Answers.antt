use Rattle.exec_laws.proofs.BytesKept.{action-bytes}
use Rattle.exec_laws.proofs.layouts.bytes_stay_bytes.Goals as goal

pub returns : goal.returns
returns c action frame bytes = action-bytes frame bytes action
