-- Why the match has to be one that can be spelled: some bits of an Ethernet type print, and no value states them.
use Rattle.std.specs.Prelude.{◌≡◌, Err, codes, refl}
use Rattle.spec_keys.specs.Keys.{only_at}
use Rattle.spec_keys.specs.declared.field_id.FieldId.TheVariants.{DlType}
use Rattle.spec_keys.specs.Fields.{place_of}
use Rattle.spec_tables.specs.Rules.{Match}
use Rattle.spec_tables.specs.declared.edit_word.EditWord.TheVariants.{Delete}
use Rattle.spec_flow_text.specs.Numbers.{digits_upto, decimal_upto, number_upto}
use Rattle.spec_flow_text.specs.NumbersPrinted.{hexadecimal4}
use Rattle.spec_flow_text.specs.declared.fault.TextFault.TheVariants.{BadValue}
use Rattle.spec_flow_text.specs.Names.{field_named, item_named}
use Rattle.spec_flow_text.specs.Values.{value_in, mask_in, masked_value, value_of, field_stated}
use Rattle.spec_flow_text.specs.Items.{words, with_valued, with_item, read_items}
use Rattle.spec_flow_text.specs.Matches.{read_match}
use Rattle.spec_flow_text.specs.Printed.{value_in_text, shorthand_of, shown, match_printed}

-- the types from 0x0800 to 0x08ff
some_types : Match
some_types = record { key = only_at (place_of DlType) 0x0800; mask = only_at (place_of DlType) 0xff00 }

print_of_some_types : match_printed some_types ≡ codes "dl_type=0x0800/0xff00"
unfolding some_types match_printed shown shorthand_of value_in_text hexadecimal4 only_at
print_of_some_types = refl

print_is_no_match : read_match Delete 0 (codes "dl_type=0x0800/0xff00") ≡ Err (BadValue 9)
unfolding read_match read_items words with_item with_valued item_named field_named field_stated value_of masked_value value_in mask_in number_upto decimal_upto digits_upto
print_is_no_match = refl
