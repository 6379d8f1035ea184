-- What holds of two runs by their comparison, whatever journals they have.
use Rattle.std.specs.Prelude.{List, []}
use Rattle.spec_case.specs.Run.{Run}
use Rattle.spec_board.specs.Texts.{Journal}
use Rattle.spec_tools.specs.Lines.{Line}
use Rattle.told_laws.specs.Runs.{AreByAllEdits, AreCompared, HasNone}

-- It holds of two runs whose tables differ as these lines tell, and of whole journals of both by all edits.
abbrev pub OfCompared : List Line → (Run → Run → List Journal → List Journal → Type 0) → Type 0
OfCompared lines claim =
    (o n : Run) (a b : List Journal) → AreCompared o n lines → AreByAllEdits o a → AreByAllEdits n b → claim o n a b

-- It holds of those of whose frames no difference is told.
abbrev pub OfUntouched : (Run → Run → List Journal → List Journal → Type 0) → Type 0
OfUntouched claim = (lines : List Line) → OfCompared lines (λ o n a b. HasNone o lines → claim o n a b)

-- It holds of those of which nothing is listed.
abbrev pub OfAlike : (Run → Run → List Journal → List Journal → Type 0) → Type 0
OfAlike claim = OfCompared [] claim
