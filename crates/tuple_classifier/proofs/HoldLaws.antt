-- A rule that a subtable has.
use Rattle.std.proofs.Common.{◌≡◌, ◌<◌, ℕ, List, refl, ap, subst}
use Rattle.spec_tables.specs.Rules.{Rule}
use Rattle.table_laws.specs.Members.{Among}
use Rattle.staged_lookup.specs.declared.rank.Rank.{Rank}
use Rattle.tuple_classifier.specs.declared.subtable.Subtable.{Subtable}
use Rattle.tuple_classifier.specs.Numbers.{times, numbers_in}
use Rattle.tuple_classifier.specs.Ranks.{rank_of}
use Rattle.tuple_classifier.specs.Subtables.{IsSubtableOf, Holds}
use Rattle.tuple_classifier.proofs.PriorityLaws.{priority_has}

pub has_rule : (s : Subtable) (rank : Rank) (rs : List Rule) (r : Rule) → IsSubtableOf s rs → Among r rs → rank_of r ≡ rank → Holds s rank r.matching.key
has_rule s rank rs r is m of_rank = record {
  staged = (rs, is.staged, (r, m, ap (λ (k : Rank). k.number) of_rank, refl));
  indexed = subst (λ (n : ℕ). 0 < times n (numbers_in s.indexes.priorities.items.items)) (ap (λ (k : Rank). k.priority) of_rank) (priority_has rs (numbers_in s.indexes.priorities.items.items) is.indexed.prioritised r m);
}
