-- What holds of any two lists of whole journals of a run.
use Rattle.std.specs.Prelude.{List, All}
use Rattle.spec_case.specs.Run.{Run}
use Rattle.spec_board.specs.Texts.{Journal}
use Rattle.spec_run.specs.Journals.{HasEditsApart, AreWhole, IsByLastVersion}

-- It holds of any two that decide each frame under the last version of its block.
abbrev pub OfLastVersions : (Run → List Journal → List Journal → Type 0) → Type 0
OfLastVersions claim =
    (run : Run) (a b : List Journal)
    → AreWhole run a → AreWhole run b → All (IsByLastVersion run) a → All (IsByLastVersion run) b → claim run a b

-- It holds of any two of a run where no block has both edits and frames.
abbrev pub OfEditsApart : (Run → List Journal → List Journal → Type 0) → Type 0
OfEditsApart claim =
    (run : Run) (a b : List Journal) → HasEditsApart run → AreWhole run a → AreWhole run b → claim run a b
