-- Actions that the flow text spells.
use Rattle.std.specs.Prelude.{Bool, true, false, not, ◌&&◌, ◌==◌, nat_le, nat_lt, List, [], ◌∷◌, length, bit_and}
use Rattle.std.specs.List.{list_all}
use Rattle.spec_actions.specs.declared.action.OfAction.{OfAction}
use Rattle.spec_actions.specs.declared.action.OfAction.TheVariants.{Output, Goto, Set}
use Rattle.spec_actions.specs.Sound.{is_sound}
use Rattle.spec_flow_text.specs.Numbers.{last_port}
use Rattle.spec_flow_text.specs.Actions.{is_respellable, most_actions}

-- Whether an action can be spelled: a sound one, whose port is one that a switch can have, and whose write has a mask
-- that can be named and no bits outside it.
abbrev pub is_spellable : OfAction → Bool
is_spellable (Output port) = nat_lt 0 port && nat_le port last_port
is_spellable (Set name value mask) = is_sound (Set name value mask) && (is_respellable (Set name value mask) && (bit_and value mask == value))
is_spellable a = is_sound a

abbrev pub is_goto : OfAction → Bool
is_goto (Goto table) = true
is_goto a = false

-- whether nothing stands after a `goto_table`
abbrev pub has_goto_last : List OfAction → Bool
has_goto_last [] = true
has_goto_last (a ∷ []) = true
has_goto_last (a ∷ b ∷ actions) = not (is_goto a) && has_goto_last (b ∷ actions)

-- whether a list of actions can be spelled
abbrev pub are_spellable : List OfAction → Bool
are_spellable actions = nat_le (length actions) most_actions && (has_goto_last actions && list_all is_spellable actions)

-- whether each write of a list can be spelled again, as it was read or otherwise
abbrev pub are_respellable : List OfAction → Bool
are_respellable actions = list_all is_respellable actions
