use Rattle.output_laws.proofs.parts.AllParts.{counts_add_up}
use Rattle.output_laws.proofs.parts.counts.rule_counts_of_parts_add_up.Goals as goal

pub returns : goal.returns
returns c = counts_add_up
