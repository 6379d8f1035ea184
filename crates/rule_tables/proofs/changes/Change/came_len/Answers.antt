use Rattle.std.proofs.Common.{length, sym, ap, ◌∙◌}
use Rattle.std.proofs.lemmas.List.{length-map}
use Rattle.rule_tables.specs.Changes.{Changed, came_at}
use Rattle.rule_tables.proofs.changes.Change.came_len.Goals as goal

pub returns : goal.returns
returns c =
    sym (length-map c.self.inside.added.now (came_at c.self.inside.after)) ∙ ap (λ (a : Changed). length a.came) c.self.view_is
