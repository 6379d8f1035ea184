use Rattle.output_laws.proofs.journals.Whole.{all_fit}
use Rattle.output_laws.proofs.journals.printable.whole_journals_are_printable.Goals as goal

pub returns : goal.returns
returns c run journals few whole = all_fit run few journals whole
