-- What datapath actions send: to which ports, one after the other, and what a field of the frame is then.
use Rattle.std.specs.Prelude.{ℕ, Bool, ◌==◌, ◌||◌, if◌then◌else◌, List, [], ◌∷◌}
use Rattle.std.specs.List.{list_any}
use Rattle.spec_base.specs.Bits.{merged}
use Rattle.spec_keys.specs.declared.field_id.FieldId.{FieldId}
use Rattle.spec_keys.specs.Fields.{place_of}
use Rattle.spec_actions.specs.declared.action.DpAction.{DpAction}
use Rattle.spec_actions.specs.declared.action.DpAction.TheVariants.{Output, PopVlan, PushVlan, Set}
use Rattle.spec_xlate.specs.Commit.{fields_before_tags, fields_after_tags}

abbrev pub ports_in : List DpAction → List ℕ
ports_in [] = []
ports_in (Output n ∷ actions) = n ∷ ports_in actions
ports_in (PopVlan ∷ actions) = ports_in actions
ports_in (PushVlan tpid tci ∷ actions) = ports_in actions
ports_in (Set f value mask ∷ actions) = ports_in actions

abbrev pub is_same_field : FieldId → FieldId → Bool
is_same_field f g = place_of f == place_of g

-- whether a field is one that datapath actions write in its place
abbrev pub is_frame_field : FieldId → Bool
is_frame_field f = list_any (is_same_field f) fields_before_tags || list_any (is_same_field f) fields_after_tags

-- the number of such a field after datapath actions
abbrev pub number_after : FieldId → List DpAction → ℕ → ℕ
number_after f [] number = number
number_after f (Output n ∷ actions) number = number_after f actions number
number_after f (PopVlan ∷ actions) number = number_after f actions number
number_after f (PushVlan tpid tci ∷ actions) number = number_after f actions number
number_after f (Set g value mask ∷ actions) number =
    number_after f actions (if is_same_field f g then merged number value mask else number)
