use Rattle.board_steps.proofs.Reading.{one_to_one}
use Rattle.board_steps.proofs.laws.journals_text_is_one_to_one.Goals as goal

pub returns : goal.returns
returns c = one_to_one
