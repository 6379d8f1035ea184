use Rattle.output_laws.proofs.parts.AllParts.{all_apart}
use Rattle.output_laws.proofs.parts.cuts.parts_have_edits_apart.Goals as goal

pub returns : goal.returns
returns c = all_apart
