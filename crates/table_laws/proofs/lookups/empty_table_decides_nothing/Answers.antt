use Rattle.table_laws.proofs.LookupLaws.{winner-empty, consults-empty}
use Rattle.table_laws.proofs.lookups.empty_table_decides_nothing.Goals as goal

pub returns-clause-finds : goal.returns-clause-finds
returns-clause-finds c = winner-empty

pub returns-clause-consults : goal.returns-clause-consults
returns-clause-consults c = consults-empty
