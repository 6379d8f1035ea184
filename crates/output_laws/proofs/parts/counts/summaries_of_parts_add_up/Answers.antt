use Rattle.output_laws.proofs.parts.AllParts.{summaries_add_up}
use Rattle.output_laws.proofs.parts.counts.summaries_of_parts_add_up.Goals as goal

pub returns : goal.returns
returns c = summaries_add_up
