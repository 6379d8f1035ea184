-- The lines of the steps of a journal.
use Rattle.std.specs.Prelude.{ℕ, List}
use Rattle.std.specs.List.{flat_map}
use Rattle.spec_board.specs.Steps.{Step}
use Rattle.spec_board.specs.Texts.{line_of, step_text}

abbrev pub steps_text : List Step → List ℕ
steps_text steps = flat_map (λ step. line_of (step_text step)) steps
