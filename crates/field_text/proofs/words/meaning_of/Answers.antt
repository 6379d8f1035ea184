use Rattle.std.proofs.Common.{◌∙◌, bytes_eq}
use Rattle.field_text.proofs.Tables.{find_seen}
use Rattle.field_text.proofs.words.meaning_of.Goals as goal

pub returns : goal.returns
returns g c = c.found.ensures ∙ find_seen (λ row. (row.0.now, row.1)) (λ row. bytes_eq row.0 c.args.text.now) (λ row. row.1) c.args.table.now
