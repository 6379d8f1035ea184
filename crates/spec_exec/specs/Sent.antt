-- What a list of datapath actions sends (ovs-actions(7)).
use Rattle.std.specs.Prelude.{ℕ, Bool, true, false, List, [], ◌∷◌}
use Rattle.spec_actions.specs.declared.action.DpAction.{DpAction}
use Rattle.spec_actions.specs.declared.action.DpAction.TheVariants.{Output}
use Rattle.spec_exec.specs.Rewriting.{after_action}

-- whether an action sends
abbrev pub is_output : DpAction → Bool
is_output (Output port) = true
is_output action = false

-- bytes that go out at a port
pub record Piece : Type 0 where
  pub port : ℕ
  pub bytes : List ℕ

-- the pieces of a frame: each output sends the frame as it then is, and each other action changes it for those after it
unfoldable pub sent : List DpAction → List ℕ → List Piece
sent [] frame = []
sent (Output port ∷ actions) frame = record { port = port; bytes = frame } ∷ sent actions frame
sent (action ∷ actions) frame = sent actions (after_action action frame)
