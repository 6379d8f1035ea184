use Rattle.std.proofs.Common.{length, sym, ap, ◌∙◌}
use Rattle.std.proofs.lemmas.List.{length-map}
use Rattle.rule_tables.specs.Changes.{Changed, went_at}
use Rattle.rule_tables.proofs.changes.Change.went_len.Goals as goal

pub returns : goal.returns
returns c =
    sym (length-map c.self.inside.ended.now (went_at c.self.inside.rules.now c.self.inside.before)) ∙ ap (λ (a : Changed). length a.went) c.self.view_is
