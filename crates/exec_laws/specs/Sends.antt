-- Lists of actions.
use Rattle.std.specs.Prelude.{ℕ, List, fold, map}
use Rattle.spec_actions.specs.declared.action.DpAction.{DpAction}
use Rattle.spec_exec.specs.Rewriting.{after_action}
use Rattle.spec_frames.specs.Key.{key_of}
use Rattle.spec_exec.specs.Sent.{Piece}

-- a frame after these actions
abbrev pub after_actions : List DpAction → List ℕ → List ℕ
after_actions actions frame = fold (λ bytes action. after_action action bytes) frame actions

-- the keys of pieces that were sent, as those of frames that come in at this port
abbrev pub keys_of : ℕ → List Piece → List (List ℕ)
keys_of port pieces = map (λ (piece : Piece). key_of port piece.bytes) pieces
