-- Pairs of a rule of the old version and one of the new one that are the same but for their numbers and cookies.
use Rattle.std.specs.Prelude.{◌≡◌, ◌⊎◌, ◌<◌, ◌==◌, ℕ, true, List, Some, IsTrue}
use Rattle.std.specs.List.{list_any}
use Rattle.spec_tables.specs.Rules.{Rule, Match, is_matched}
use Rattle.spec_tables.specs.Live.{rule_numbered}
use Rattle.table_laws.specs.Members.{Among}
use Rattle.rule_changes.specs.declared.pair.Pair.{Pair}
use Rattle.rule_changes.specs.declared.pair.Side.{Side}
use Rattle.rule_changes.specs.declared.pair.Side.TheVariants.{Old, New}

-- the number that the rule of one side has
abbrev pub number_in : Side → Pair → ℕ
number_in Old p = p.old
number_in New p = p.new

-- Rules of these numbers are the same but for numbers and cookies.
pub record IsPair (rs ss : List Rule) (p : Pair) : Type 0 where
  pub r : Rule
  pub s : Rule
  pub old : rule_numbered p.old rs ≡ Some r
  pub new : rule_numbered p.new ss ≡ Some s
  pub old_table : p.table ≡ r.table
  pub new_table : p.table ≡ s.table
  pub old_priority : p.priority ≡ r.priority
  pub new_priority : p.priority ≡ s.priority
  pub matching : r.matching ≡ s.matching
  pub actions : r.actions ≡ s.actions

-- Where rules of one priority stand in one order in the old version and in the other one in the new one, no packet
-- meets both, or they do the same.
abbrev pub KeepOrder : List Rule → Pair → Pair → Type 0
KeepOrder rs p q =
    (r t : Rule) → rule_numbered p.old rs ≡ Some r → rule_numbered q.old rs ≡ Some t
    → p.table ≡ q.table → p.priority ≡ q.priority → p.old < q.old → q.new < p.new
    → (key : List ℕ) → is_matched key r.matching ≡ true → is_matched key t.matching ≡ true → r.actions ≡ t.actions

-- All are pairs, and keep the order of each two of them that matters.
pub record ArePairs (rs ss : List Rule) (pairs : List Pair) : Type 0 where
  pub each : (p : Pair) → Among p pairs → IsPair rs ss p
  pub order : (p q : Pair) → Among p pairs → Among q pairs → KeepOrder rs p q

-- A rule is in one of the pairs, or its match is among these.
abbrev pub IsCovered : Side → List Pair → List Match → Rule → Type 0
IsCovered side pairs ms r = IsTrue (list_any (λ p. number_in side p == r.number) pairs) ⊎ Among r.matching ms
