-- Lists of actions, and visitors of what they send.
use Rattle.std.specs.Prelude.{◌≡◌, ℕ, Bool, true, false, List}
use Rattle.std.specs.Fn.{Mut, Called}
use Rattle.std.specs.Borrow.{Bor}
use Rattle.spec_actions.specs.declared.action.DpAction.{DpAction}
use Rattle.spec_actions.specs.declared.action.DpAction.TheVariants.{Output, PopVlan, PushVlan, Set}
use Rattle.spec_frames.specs.Ethernet.{tag_size}
use Rattle.spec_exec.specs.Sent.{Piece}

abbrev pub is_push : DpAction → Bool
is_push (PushVlan tpid tci) = true
is_push PopVlan = false
is_push (Output port) = false
is_push (Set field value mask) = false

-- how many bytes an action may add to a frame
abbrev pub growth : DpAction → ℕ
growth (PushVlan tpid tci) = tag_size
growth PopVlan = 0
growth (Output port) = 0
growth (Set field value mask) = 0

-- a visitor was called with the port and the bytes of a piece, and is as that call left it
pub record IsVisitedAt {F : Type 0} (g : Mut F (ℕ × (Bor (List ℕ) × Unit {0})) (Unit {0})) (before : F) (piece : Piece) (after : F) : Type 0 where
  pub shown : Bor (List ℕ)
  pub shows : shown.now ≡ piece.bytes
  pub called : Called g before (piece.port, (shown, tt)) tt after
