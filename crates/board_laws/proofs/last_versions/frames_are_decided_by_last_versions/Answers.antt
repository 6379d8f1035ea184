use Rattle.board_laws.proofs.ByLastVersions.{by_last_version}
use Rattle.board_laws.proofs.Alike.{all_by_last}
use Rattle.board_laws.proofs.last_versions.frames_are_decided_by_last_versions.Goals as goal

pub returns-clause-journal : goal.returns-clause-journal
returns-clause-journal c = by_last_version

pub returns-clause-journals : goal.returns-clause-journals
returns-clause-journals c = all_by_last
