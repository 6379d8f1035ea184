use Rattle.std.proofs.Common.{◌==◌, ◌+◌, sym, ap₂, ◌∙◌}
use Rattle.std.specs.Prelude.{if◌then◌else◌, ℕ}
use Rattle.staged_lookup.proofs.Removed.{count-one_more}
use Rattle.tuple_classifier.proofs.indexes.Indexes.add.Goals as goal

pub returns : goal.returns
returns c mask rs r is of_priority = record {
  prefixed = is.prefixed;
  prioritised = λ n. c.insert.ensures n ∙ ap₂ (λ (a b : ℕ). a + (if b == n then 1 else 0)) (is.prioritised n) (sym of_priority) ∙ sym (count-one_more (λ x. x.priority == n) rs r);
}
