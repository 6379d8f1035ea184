-- Steps, as the definitions see them.
use Rattle.std.specs.Prelude.{List, map}
use Rattle.spec_board.specs.Steps as steps
use Rattle.board_steps.specs.declared.step.Settled.{Settled}
use Rattle.board_steps.specs.declared.step.Settled.TheVariants.{Present, Full, Installed}
use Rattle.board_steps.specs.declared.step.Step.{Step}
use Rattle.board_steps.specs.declared.step.Step.TheVariants.{Open, Look, Settle, Begin, Put, End}

abbrev pub settled_view : Settled → steps.Settled
settled_view (Present n) = steps.Present n
settled_view Full = steps.Full
settled_view (Installed n numbers) = steps.Installed n numbers

abbrev pub step_view : Step → steps.Step
step_view (Open block) = steps.Open block
step_view (Look place r) = steps.Look place r
step_view (Settle place v r) = steps.Settle place v (settled_view r)
step_view (Begin v) = steps.Begin v
step_view (Put number v r) = steps.Put number v r
step_view End = steps.End

abbrev pub steps_view : List Step → List steps.Step
steps_view list = map step_view list
