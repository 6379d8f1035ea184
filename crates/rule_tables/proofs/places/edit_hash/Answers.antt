use Rattle.std.proofs.Common.{ℕ, ap, ◌∙◌}
use Rattle.spec_tables.specs.Edits as tables
use Rattle.rule_tables.specs.RulePlaces.{edit_hash, identity_hash}
use Rattle.rule_tables.specs.Views.{match_view}
use Rattle.rule_tables.proofs.places.edit_hash.Goals as goal

pub returns : goal.returns
returns c =
    c.identity_hash.ensures ∙ ap (λ (table : ℕ). identity_hash table c.edit.inside.priority (match_view c.edit.inside.matching)) c.unwrap_or.ensures
    ∙ ap (λ (e : tables.Edit). edit_hash e) c.edit.view_is
