use Rattle.told_laws.proofs.Outputs.{treated}
use Rattle.told_laws.proofs.treated.frames_are_treated_as_lines_say.Goals as goal

pub returns : goal.returns
returns c = λ lines o n a b compared by_o by_n port place first last.
    treated o n lines a b compared by_o by_n port place (first, last)
