use Rattle.std.proofs.Common.{◌≡◌, ℕ, ◌<◌, false, [], Some, slice_get}
use Rattle.spec_tables.specs.Edits.{is_named_by}
use Rattle.rule_tables.specs.declared.stored.StoredRule.{StoredRule}
use Rattle.rule_tables.specs.Views.{rule_view}
use Rattle.rule_tables.proofs.places.RulePlaces.find.Given as goal

abbrev pub invariant-others : goal.invariant-others
invariant-others l =
    (k : ℕ) → k < l.other-index → (i : ℕ) (s : StoredRule) → slice_get l.self.others.items k ≡ Some i → slice_get l.rules i ≡ Some s → is_named_by l.edit (rule_view s.rule []) ≡ false
