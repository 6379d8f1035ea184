use Rattle.table_laws.proofs.LookupLaws.{consults-winner}
use Rattle.table_laws.proofs.lookups.lookup_consults_the_winners_mask.Goals as goal

pub returns : goal.returns
returns c = consults-winner
