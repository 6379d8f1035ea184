-- Worked rows: lines and the edits that they are.
use Rattle.std.specs.Prelude.{◌≡◌, ℕ, List, [], ◌∷◌, map, Option, Some, None, Ok, codes, refl}
use Rattle.std.specs.Result.{result_err}
use Rattle.spec_keys.specs.Keys.{none, joined, only_at}
use Rattle.spec_actions.specs.declared.action.OfAction.TheVariants.{Output}
use Rattle.spec_tables.specs.declared.edit_word.EditWord.TheVariants.{Add, Modify, ModifyStrict, Delete, DeleteStrict}
use Rattle.spec_tables.specs.Edits.{Edit}
use Rattle.spec_flow_text.specs.Numbers.{digits_upto, decimal_upto, number_upto}
use Rattle.spec_flow_text.specs.declared.fault.TextFault.{TextFault}
use Rattle.spec_flow_text.specs.declared.fault.TextFault.TheVariants.{Syntax, UnknownName, Unsupported, BadValue}
use Rattle.spec_flow_text.specs.Names.{field_named, is_field_left_out, shorthand_named, keyword_named, item_named, reserved_port_named, is_action_left_out, action_named}
use Rattle.spec_flow_text.specs.Values.{value_in, whole_value, value_of, bits_stated, field_stated}
use Rattle.spec_flow_text.specs.Items as items
use Rattle.spec_flow_text.specs.Items.{words, with_part, with_shorthand, number_once, with_valued, with_bare, with_item}
use Rattle.spec_flow_text.specs.Matches.{default_priority, kept, match_of, read_match}
use Rattle.spec_flow_text.specs.Actions.{up_to_end, items, is_closed, argument_of, port_of, output, actions_of_item, read_items, read_actions}
use Rattle.spec_flow_text.specs.Lines.{edit_from, edit_in}

abbrev fault_of : List ℕ → Option TextFault
fault_of line = result_err (edit_in line)

-- an edit of table 3 that matches all packets
abbrev table_3 : Edit
table_3 = record { word = Add; table = Some 3; priority = default_priority; cookie = None; matching = match_of []; actions = Output 2 ∷ [] }

lines_and_their_words :
    map edit_in (codes "table=3,actions=2" ∷ codes " add  table=3 actions=2 # 3" ∷ codes "modify table=3,actions=2" ∷ codes "modify_strict table=3,actions=2"
    ∷ codes "delete table=3" ∷ codes "delete_strict table=3#" ∷ [])
    ≡ (Ok table_3 ∷ Ok table_3 ∷ Ok (record table_3 { word = Modify }) ∷ Ok (record table_3 { word = ModifyStrict })
    ∷ Ok (record table_3 { word = Delete; actions = [] }) ∷ Ok (record table_3 { word = DeleteStrict; actions = [] }) ∷ [])
unfolding field_named is_field_left_out shorthand_named keyword_named item_named reserved_port_named is_action_left_out action_named value_in whole_value value_of bits_stated field_stated number_upto decimal_upto digits_upto words with_part with_shorthand number_once with_valued with_bare with_item items.read_items kept match_of none joined only_at read_match up_to_end items is_closed argument_of port_of output actions_of_item read_items read_actions edit_from edit_in
lines_and_their_words = refl

a_cookie_and_a_priority :
    edit_in (codes "cookie=0x5,priority=7,table=3,actions=2") ≡ Ok (record table_3 { priority = 7; cookie = Some 5 })
unfolding field_named is_field_left_out shorthand_named keyword_named item_named reserved_port_named is_action_left_out action_named value_in whole_value value_of bits_stated field_stated number_upto decimal_upto digits_upto words with_part with_shorthand number_once with_valued with_bare with_item items.read_items kept match_of none joined only_at read_match up_to_end items is_closed argument_of port_of output actions_of_item read_items read_actions edit_from edit_in
a_cookie_and_a_priority = refl

abbrev lines_and_their_faults : List (List ℕ × TextFault)
lines_and_their_faults =
    (codes "add,in_port=1,actions=2", UnknownName 1) ∷
    (codes "ADD in_port=1,actions=2", UnknownName 1) ∷
    (codes "add", Syntax 4) ∷
    (codes "modify in_port=1", Syntax 17) ∷
    (codes "delete in_port=1,actions=2", Syntax 18) ∷
    (codes "delete actions", Syntax 8) ∷
    (codes "delete_strict cookie=1", Unsupported 15) ∷
    (codes "actions=ct(commit),2", Unsupported 9) ∷
    (codes "in_port=0,actions=foo", BadValue 9) ∷
    (codes "foo=1,actions=2é", Syntax 16) ∷
    (codes ",,", Syntax 3) ∷ []

the_first_fault_is_told : map (λ row. fault_of row.0) lines_and_their_faults ≡ map (λ row. Some row.1) lines_and_their_faults
unfolding field_named is_field_left_out shorthand_named keyword_named item_named reserved_port_named is_action_left_out action_named value_in whole_value value_of bits_stated field_stated number_upto decimal_upto digits_upto words with_part with_shorthand number_once with_valued with_bare with_item items.read_items kept match_of none joined only_at read_match up_to_end items is_closed argument_of port_of output actions_of_item read_items read_actions edit_from edit_in
the_first_fault_is_told = refl
