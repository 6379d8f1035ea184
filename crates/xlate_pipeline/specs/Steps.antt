-- What each step of a translation consults.
use Rattle.std.specs.Prelude.{ℕ, List, []}
use Rattle.spec_actions.specs.declared.action.OfAction.{OfAction}
use Rattle.spec_xlate.specs.Translation.{State, start}
use Rattle.spec_xlate.specs.Lookup.{added, consults}
use Rattle.spec_xlate.specs.Consulted.{act_bits}
use Rattle.pipe_model.specs.Events.{Event}
use Rattle.pipe_model.specs.Events.Event.{Looked, Acted}

-- a lookup that consults nothing
abbrev pub no_lookup : ℕ → State → List (List ℕ)
no_lookup table s = []

-- what an action consults on a packet of a key, but for lookups
abbrev pub step_bits : OfAction → List ℕ → List (List ℕ)
step_bits action key = act_bits no_lookup action (start key)

abbrev pub event_bits : Event → List (List ℕ)
event_bits (Looked depth table rules key) = consults rules key
event_bits (Acted action key) = step_bits action key

-- a mask with what an event consults added
abbrev pub with_event : List ℕ → Event → List ℕ
with_event mask event = added mask (event_bits event)
