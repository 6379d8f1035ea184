use Rattle.std.proofs.Common.{◌==◌, sym, ap, arith}
use Rattle.std.specs.Prelude.{if◌then◌else◌, ℕ}
use Rattle.spec_tables.specs.Rules.{Rule}
use Rattle.staged_lookup.proofs.Removed.{count-without}
use Rattle.tuple_classifier.proofs.indexes.Indexes.take.Goals as goal

pub returns : goal.returns
returns c mask rs r is distinct m of_priority = record {
  prefixed = is.prefixed;
  prioritised = λ n.
      let a = c.remove.ensures n in
      let b = is.prioritised n in
      let d = ap {B = ℕ} (λ (v : ℕ). if v == n then 1 else 0) (sym of_priority) in
      let e = count-without (λ (x : Rule). x.priority == n) r rs m distinct in
      omega (arith, a, b, d, e);
}
