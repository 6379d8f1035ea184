use Rattle.exec_laws.proofs.EachField.{field-back}
use Rattle.exec_laws.proofs.read_back.fields_read_back.Goals as goal

pub returns : goal.returns
returns c port frame f value mask is shown fits = field-back port frame is.bytes is.whole value mask f shown fits
