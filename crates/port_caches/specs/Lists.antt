-- Lists of actions, which entries and decided frames name by their place.
use Rattle.std.specs.Prelude.{◌≡◌, ℕ, ◌-◌, ◌<◌, ◌≤◌, ◌≢◌, ◌⊎◌, min, true, false, List, [], length, slice_get, Some, vec_len, vec_capacity}
use Rattle.std.specs.Option.{option_map_or}
use Rattle.std.specs.Global.{Vec}
use Rattle.spec_actions.specs.declared.action.DpAction.{DpAction}
use Rattle.port_caches.specs.declared.lists.HeldList.{HeldList}

-- the actions of a list
abbrev pub actions_at : List HeldList → ℕ → List DpAction
actions_at lists n = option_map_or (λ (l : HeldList). l.actions) (slice_get lists n) []

-- A decided frame may name this list: it has these actions, and it stays.
abbrev pub IsHeld : List HeldList → ℕ → List DpAction → Type 0
IsHeld lists n actions = slice_get lists n ≡ Some (record { actions = actions; held = true })

-- What decided frames name stays.
abbrev pub KeepsHeld : List HeldList → List HeldList → Type 0
KeepsHeld old new = (n : ℕ) (actions : List DpAction) → IsHeld old n actions → IsHeld new n actions

-- how many lists there may be
abbrev pub most_lists : ℕ
most_lists = 4294967296

-- how many more lists fit without memory
abbrev pub room_in : Vec HeldList → ℕ
room_in lists = min (vec_capacity lists) most_lists - vec_len lists

-- The list at this place has these actions, and no decided frame names it: it is an entry's own, or a new one. The
-- others stay, and what decided frames name.
pub record IsListFor (own : ℕ) (actions : List DpAction) (old : List HeldList) (place : ℕ) (new : List HeldList) : Type 0 where
  pub there : slice_get new place ≡ Some (record { actions = actions; held = false })
  pub own_or_new : (place ≡ own) ⊎ (place ≡ length old)
  pub others : (n : ℕ) → n < length old → n ≢ own → actions_at new n ≡ actions_at old n
  pub held : KeepsHeld old new
  pub longer : length old ≤ length new
  pub within : place < length new
