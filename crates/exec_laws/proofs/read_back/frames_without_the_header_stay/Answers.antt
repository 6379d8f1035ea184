use Rattle.exec_laws.proofs.EachField.{short-stays}
use Rattle.exec_laws.proofs.ThirdTag.{untagged-stays}
use Rattle.exec_laws.proofs.Within.{uncounted-untagged}
use Rattle.exec_laws.proofs.read_back.frames_without_the_header_stay.Goals as goal

pub returns-clause-short : goal.returns-clause-short
returns-clause-short c = short-stays

pub returns-clause-untagged : goal.returns-clause-untagged
returns-clause-untagged c frame none = untagged-stays frame (uncounted-untagged frame none)
