use Rattle.exec_laws.proofs.EachField.{field-layout}
use Rattle.exec_laws.proofs.layouts.writes_keep_the_layout.Goals as goal

pub returns : goal.returns
returns c frame f value mask bytes = field-layout frame bytes f value mask
