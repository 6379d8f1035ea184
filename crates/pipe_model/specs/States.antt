-- A translation under way, as the definition sees it, and its steps in the words of the definition.
use Rattle.std.specs.Prelude.{ℕ, Bool, true, false, ◌++◌, List, [], ◌∷◌}
use Rattle.spec_actions.specs.declared.action.OfAction.{OfAction}
use Rattle.spec_xlate.specs.Translation as xlate
use Rattle.ovs_fields.specs.Packed.{numbers}
use Rattle.pipe_model.specs.Modes.{mode_of}
use Rattle.pipe_model.specs.declared.translating.Translating.{Translating}

abbrev pub state_of : Translating → xlate.State
state_of s = record {
  current = numbers s.current;
  base = numbers s.base;
  actions = s.actions;
  visits = s.visits.items;
  lookups_left = s.lookups_left;
  mode = mode_of s.mode;
}

-- whether a translation goes on in the list of actions that it is in
abbrev pub is_going : xlate.Mode → Bool
is_going xlate.Mode.Going = true
is_going xlate.Mode.ListEnded = false
is_going xlate.Mode.Stopped = false

-- the rule of this number visited
abbrev pub visiting : ℕ → xlate.State → xlate.State
visiting number s = record s { visits = s.visits ++ number ∷ [] }

-- a lookup that does nothing
abbrev pub stay : ℕ → xlate.State → xlate.State
stay table s = s

-- a switch of these ports, without rules
abbrev pub without_rules : List ℕ → xlate.Switch
without_rules ports = xlate.switch_of [] ports

-- what one action does on a switch of these ports, but for lookups
abbrev pub stepped : List ℕ → OfAction → xlate.State → xlate.State
stepped ports action s = xlate.act (without_rules ports) stay action s
