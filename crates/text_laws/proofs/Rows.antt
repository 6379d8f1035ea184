-- Where a separator counts: a comma behind the word of an edit is part of that word.
use Rattle.std.specs.Prelude.{◌≡◌, is_ok, true, Err, codes, refl}
use Rattle.spec_flow_text.specs.declared.fault.TextFault.TheVariants.{UnknownName}
use Rattle.spec_flow_text.specs.Names.{field_named, shorthand_named, keyword_named, is_field_left_out, item_named}
use Rattle.spec_flow_text.specs.Items.{words, with_valued, with_bare, with_item, read_items}
use Rattle.spec_flow_text.specs.Matches.{read_match}
use Rattle.spec_flow_text.specs.Lines.{edit_from, edit_in}

delete : is_ok (edit_in (codes "delete")) ≡ true
unfolding edit_in edit_from read_match read_items words
delete = refl

delete_and_comma : edit_in (codes "delete,") ≡ Err (UnknownName 1)
unfolding edit_in edit_from read_match read_items words with_item with_bare with_valued item_named field_named shorthand_named keyword_named is_field_left_out
delete_and_comma = refl
