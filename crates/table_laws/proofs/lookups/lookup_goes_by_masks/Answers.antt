use Rattle.table_laws.proofs.LookupLaws.{consults-masks}
use Rattle.table_laws.proofs.lookups.lookup_goes_by_masks.Goals as goal

pub returns : goal.returns
returns c = consults-masks
