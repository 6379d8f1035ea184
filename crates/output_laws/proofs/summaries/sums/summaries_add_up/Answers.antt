use Rattle.output_laws.proofs.summaries.Counted.{add_up}
use Rattle.output_laws.proofs.summaries.sums.summaries_add_up.Goals as goal

pub returns : goal.returns
returns c = add_up
