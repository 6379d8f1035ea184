use Rattle.output_laws.proofs.parts.AllParts.{ports_follow, mirrors_follow}
use Rattle.output_laws.proofs.parts.files.files_of_parts_follow.Goals as goal

pub returns-clause-ports : goal.returns-clause-ports
returns-clause-ports c times run journals cut may are = ports_follow times run journals cut are may

pub returns-clause-mirrors : goal.returns-clause-mirrors
returns-clause-mirrors c times run journals cut may are = mirrors_follow times run journals cut are may
