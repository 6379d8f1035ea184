-- Lists of datapath actions whose values and masks fit the fields that they write.
use Rattle.std.specs.Prelude.{◌^◌, Bool, true, ◌&&◌, nat_lt, List, IsTrue}
use Rattle.std.specs.List.{list_all}
use Rattle.spec_keys.specs.Fields.{width_of}
use Rattle.spec_actions.specs.declared.action.DpAction.{DpAction}
use Rattle.spec_actions.specs.declared.action.DpAction.TheVariants.{Output, PopVlan, PushVlan, Set}

-- whether an action writes only numbers that its field can hold
abbrev pub is_within_field : DpAction → Bool
is_within_field (Output port) = true
is_within_field PopVlan = true
is_within_field (PushVlan tpid tci) = true
is_within_field (Set f value mask) = nat_lt value (2 ^ width_of f) && nat_lt mask (2 ^ width_of f)

-- Each action of a list does.
pub record AreWithinFields (actions : List DpAction) : Type 0 where
  pub within : IsTrue (list_all is_within_field actions)
