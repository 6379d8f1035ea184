-- Two orders of two items, of which both are bad: each order has a fault of its own.
use Rattle.std.specs.Prelude.{◌≡◌, Err, codes, refl}
use Rattle.spec_tables.specs.declared.edit_word.EditWord.TheVariants.{Delete}
use Rattle.spec_flow_text.specs.declared.fault.TextFault.TheVariants.{UnknownName, BadValue}
use Rattle.spec_flow_text.specs.Numbers.{digits_upto, decimal_upto, number_upto}
use Rattle.spec_flow_text.specs.Names.{field_named, shorthand_named, keyword_named, is_field_left_out, item_named}
use Rattle.spec_flow_text.specs.Values.{value_in, whole_value, value_of, field_stated}
use Rattle.spec_flow_text.specs.Items.{words, with_valued, with_bare, with_item, read_items}
use Rattle.spec_flow_text.specs.Matches.{read_match}

unknown_first : read_match Delete 0 (codes "foo=1,in_port=x") ≡ Err (UnknownName 1)
unfolding read_match read_items words with_item with_bare with_valued item_named field_named shorthand_named keyword_named is_field_left_out
unknown_first = refl

bad_value_first : read_match Delete 0 (codes "in_port=x,foo=1") ≡ Err (BadValue 9)
unfolding read_match read_items words with_item with_bare with_valued item_named field_named shorthand_named keyword_named is_field_left_out field_stated value_of whole_value value_in number_upto decimal_upto digits_upto
bad_value_first = refl
