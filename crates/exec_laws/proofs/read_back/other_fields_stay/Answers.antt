use Rattle.exec_laws.proofs.EachField.{unplaced-stays, unshown-key}
use Rattle.exec_laws.proofs.read_back.other_fields_stay.Goals as goal

pub returns-clause-absent : goal.returns-clause-absent
returns-clause-absent c frame f value mask none = unplaced-stays f value mask frame none

pub returns-clause-hidden : goal.returns-clause-hidden
returns-clause-hidden c port frame f value mask is hidden = unshown-key port frame is.bytes is.whole value mask f hidden
