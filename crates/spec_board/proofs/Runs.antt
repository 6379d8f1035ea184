-- Runs that several rows speak of.
use Rattle.std.specs.Prelude.{List, [], ◌∷◌}
use Rattle.spec_actions.specs.declared.action.OfAction.TheVariants.{Output}
use Rattle.spec_tables.specs.declared.edit_word.EditWord.TheVariants.{Modify, DeleteStrict}
use Rattle.spec_case.specs.declared.run_step.RunStep.TheVariants as given
use Rattle.spec_case.specs.Run.{Run}
use Rattle.spec_board.specs.declared.looked.Looked.TheVariants.{Exact, Mega, Miss}
use Rattle.spec_board.specs.declared.put_done.PutDone.TheVariants.{Replaced}
use Rattle.spec_board.specs.Steps.{Step, Look, Settle, Begin, Put, End, Installed}
use Rattle.spec_board.specs.State.{State}
use Rattle.spec_board.specs.Journals.{after}
use Rattle.spec_board.proofs.Shown.{run_of, flow_limit, add, edit, in_port_1, dl_dst, sync, frame}

-- The rule of port 1 sends to port 2, and later to a port that the switch lacks.
abbrev pub replaced : Run
replaced =
    run_of flow_limit (2 ∷ []) (add 32768 in_port_1 (Output 2 ∷ []) ∷ edit Modify 32768 in_port_1 (Output 3 ∷ []) ∷ [])
    [] (frame 1 2 ∷ frame 2 2 ∷ frame 3 2 ∷ [])
    (given.Edit ∷ given.Rx 1 ∷ given.Snap 1 1 ∷ given.Settle 1 1 ∷ given.Edit ∷ given.Rx 1 ∷ given.Sweep 1 ∷ given.Check 1 1
    ∷ given.Put 1 1 ∷ given.Swept 1 ∷ given.Rx 1 ∷ [])

abbrev pub replaced_steps : List Step
replaced_steps =
    Look 1 Miss ∷ Settle 1 1 (Installed 1 []) ∷ Look 2 (Mega 1) ∷ Begin 2 ∷ Put 1 2 Replaced ∷ End ∷ Look 3 (Exact 1) ∷ []

-- Rule 1 is deleted at 2 seconds, when the second frame comes in.
abbrev pub two_blocks : Run
two_blocks =
    run_of flow_limit (2 ∷ 3 ∷ [])
    (add 5 in_port_1 (Output 2 ∷ []) ∷ add 5 (dl_dst 2) (Output 3 ∷ []) ∷ edit DeleteStrict 5 in_port_1 [] ∷ [])
    (sync 2 2 ∷ []) (frame 1 2 ∷ frame 2 2 ∷ []) []

-- a board of port 1 after these steps
abbrev pub led_to : List Step → State
led_to steps = after two_blocks 1 steps

abbrev pub one_settled : List Step
one_settled = Look 1 Miss ∷ Settle 1 2 (Installed 1 []) ∷ []
