use Rattle.std.proofs.Common.{◌∙◌, bytes_eq, ap}
use Rattle.std.specs.List.{list_any}
use Rattle.field_text.proofs.Tables.{any_seen}
use Rattle.field_text.proofs.fields.is_called.Goals as goal

pub returns : goal.returns
returns c =
    c.is_one_of.ensures ∙ any_seen (λ word. word.now) (λ word. bytes_eq word c.args.name.now) c.names_of.result.now
    ∙ ap (list_any (λ word. bytes_eq word c.args.name.now)) c.names_of.ensures.names
