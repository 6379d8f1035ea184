use Rattle.told_laws.proofs.Visits.{found-visits}
use Rattle.told_laws.proofs.found.rules_found_are_those_visited.Goals as goal

pub returns : goal.returns
returns c = found-visits
