-- The one text of a list of datapath actions (ovs-actions(7), ovs-dpctl(8)). That a write has the field's own name, and
-- its value and mask in the forms of a match, is this profile's.
use Rattle.std.specs.Prelude.{ℕ, ◌-◌, ◌/◌, ◌%◌, ◌^◌, ◌==◌, if◌then◌else◌, List, [], ◌∷◌, ◌++◌, codes}
use Rattle.std.specs.Fmt.{decimal}
use Rattle.spec_keys.specs.declared.field_id.FieldId.{FieldId}
use Rattle.spec_actions.specs.declared.action.DpAction.{DpAction}
use Rattle.spec_actions.specs.declared.action.DpAction.TheVariants.{Output, PopVlan, PushVlan, Set}
use Rattle.spec_keys.specs.Protocols.{customer_tag}
use Rattle.spec_flow_text.specs.Characters.{comma, right_parenthesis}
use Rattle.spec_flow_text.specs.NumbersPrinted.{hexadecimal4}
use Rattle.spec_flow_text.specs.Values.{Bits, bits, within_mask}
use Rattle.spec_flow_text.specs.Printed.{Value, shown_text, own_name, list_printed}

-- the content of a tag: its priority in the most significant bits, and its VLAN identifier in the least significant ones
-- (IEEE 802.1Q, 9.6)
abbrev pub tag_width : ℕ
tag_width = 16

abbrev pub priority_width : ℕ
priority_width = 3

abbrev pub identifier_width : ℕ
identifier_width = 12

abbrev pub identifier_of : ℕ → ℕ
identifier_of tci = tci % 2 ^ identifier_width

abbrev pub priority_of : ℕ → ℕ
priority_of tci = tci / 2 ^ (tag_width - priority_width)

-- `NAME=VALUE`, or `NAME=VALUE/MASK` where the mask isn't full; bits outside the mask are written as 0
abbrev pub write_text : FieldId → Bits → List ℕ
write_text f b = shown_text (Value (own_name f) (within_mask b))

-- the type of a tag, where it isn't a customer's
abbrev pub tag_type_text : ℕ → List ℕ
tag_type_text tpid = if tpid == customer_tag then [] else codes "tpid=" ++ (hexadecimal4 tpid ++ comma ∷ [])

abbrev pub dp_action_text : DpAction → List ℕ
dp_action_text (Output port) = decimal port
dp_action_text PopVlan = codes "pop_vlan"
dp_action_text (PushVlan tpid tci) =
    codes "push_vlan(" ++ (tag_type_text tpid
    ++ (codes "vid=" ++ (decimal (identifier_of tci) ++ (codes ",pcp=" ++ (decimal (priority_of tci) ++ right_parenthesis ∷ [])))))
dp_action_text (Set f value mask) = codes "set(" ++ (write_text f (bits value mask) ++ right_parenthesis ∷ [])

-- the text of a list of datapath actions
unfoldable pub dp_actions_printed : List DpAction → List ℕ
dp_actions_printed actions = list_printed dp_action_text actions
