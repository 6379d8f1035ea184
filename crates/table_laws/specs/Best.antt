-- What the winner of a table is, without a scan.
use Rattle.std.specs.Prelude.{◌≡◌, ℕ, ◌≤◌, List, IsTrue, All, Any, Contains}
use Rattle.spec_tables.specs.Rules.{Rule, is_matched, winner}
use Rattle.spec_xlate.specs.Lookup.{added, priority_to_beat, rules_from}

-- A rule that matches a key. None that matches has a greater priority, and none of equal priority a lesser number.
pub record IsBest (rules : List Rule) (key : List ℕ) (w : Rule) : Type 0 where
  pub is_rule : Contains rules w
  pub matches : IsTrue (is_matched key w.matching)
  pub highest : All (λ r. IsTrue (is_matched key r.matching) → r.priority ≤ w.priority) rules
  pub least : All (λ r. IsTrue (is_matched key r.matching) → r.priority ≡ w.priority → w.number ≤ r.number) rules

-- The masks are those of the rules: each rule's mask is one of them, and each of them is some rule's.
pub record AreMasksOf (rules : List Rule) (masks : List (List ℕ)) : Type 0 where
  pub every : All (λ r. Contains masks r.matching.mask) rules
  pub only : All (λ m. Any (λ r. r.matching.mask ≡ m) rules) masks

-- the rules that may beat the winner of a lookup or tie with it
abbrev pub contenders : List Rule → List ℕ → List Rule
contenders rules key = rules_from (priority_to_beat (winner rules key)) rules

-- Two lists of masks add the same bits, whatever mask they are added to.
abbrev pub AddTheSame : List (List ℕ) → List (List ℕ) → Type 0
AddTheSame masks others = (mask : List ℕ) → added mask masks ≡ added mask others
