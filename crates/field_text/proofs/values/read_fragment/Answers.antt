use Rattle.std.proofs.Common.{◌∙◌, ap, map}
use Rattle.std.specs.Option.{option_map}
use Rattle.field_text.specs.declared.values.TheConstants.{FRAGMENT_WORDS}
use Rattle.field_text.specs.Views.{bits_view}
use Rattle.field_text.proofs.Tables.{meaning_seen}
use Rattle.field_text.proofs.values.read_fragment.Goals as goal

pub returns-clause-value : goal.returns-clause-value
returns-clause-value c = ap (option_map bits_view) c.meaning_of.ensures ∙ meaning_seen bits_view c.args.text.now (map (λ row. (row.0.now, row.1)) FRAGMENT_WORDS)
