use Rattle.board_steps.proofs.Reading.{one_to_one}
use Rattle.output_laws.proofs.journals.Whole.{all_fit}
use Rattle.output_laws.proofs.journals.printable.texts_determine_whole_journals.Goals as goal

pub returns : goal.returns
returns c run a b few whole_a whole_b same = one_to_one a b (all_fit run few a whole_a) (all_fit run few b whole_b) same
