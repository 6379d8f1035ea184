use Rattle.std.proofs.Common.{◌≡◌, false, List}
use Rattle.std.specs.List.{flat_map}
use Rattle.spec_keys.specs.declared.field_id.FieldId.{FieldId}
use Rattle.spec_keys.specs.Fields.{fields}
use Rattle.spec_tables.specs.Rules.{Match}
use Rattle.spec_run.specs.Megaflows.{stated, megaflow_match_text}
use Rattle.text_numbers.proofs.Adding.{same_text}
use Rattle.match_text.specs.Shown.{items_text}
use Rattle.match_text.proofs.ItemTexts.{joined}
use Rattle.dump_lines.specs.Views.{match_of}
use Rattle.dump_lines.proofs.megaflows.matches.print_megaflow_match.Goals as goal

text_of : (m : Match) (fs : List FieldId) → fs ≡ fields → items_text false (flat_map (stated m) fs) ≡ megaflow_match_text m
unfolding megaflow_match_text
text_of m fs are_all = rw are_all (joined (flat_map (stated m) fields))

pub returns : goal.returns
returns c = same_text (text_of (match_of c.args.key.now c.args.mask.now) c.all_fields.result.now c.all_fields.ensures) c.print_fields.ensures
