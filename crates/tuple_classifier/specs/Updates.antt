-- How the rules that something has change, as one comes or goes.
use Rattle.std.specs.Prelude.{◌≡◌, ℕ, List, [], ◌∷◌, ◌++◌}
use Rattle.spec_tables.specs.Rules.{Rule}
use Rattle.table_laws.specs.Members.{Among}
use Rattle.rule_tables.specs.declared.matching.Match.{Match}
use Rattle.rule_tables.specs.Views.{match_view}
use Rattle.staged_lookup.specs.declared.rank.Rank.{Rank}
use Rattle.staged_lookup.specs.Numbered.{AreDistinct, without}
use Rattle.tuple_classifier.specs.Ranks.{rank_of}

-- whatever rules it had, it has the same
abbrev pub KeepsRules : (List Rule → Type 0) → (List Rule → Type 0) → Type 0
KeepsRules Had Has = (rs : List Rule) → Had rs → Has rs

-- or them and one of this match and rank
abbrev pub AddsRule : Match → Rank → (List Rule → Type 0) → (List Rule → Type 0) → Type 0
AddsRule m rank Had Has = (rs : List Rule) (r : Rule) → Had rs → r.matching ≡ match_view m → rank_of r ≡ rank → Has (rs ++ r ∷ [])

-- or those but one of this match and rank
abbrev pub TakesRule : Match → Rank → (List Rule → Type 0) → (List Rule → Type 0) → Type 0
TakesRule m rank Had Has = (rs : List Rule) (r : Rule) → Had rs → AreDistinct rs → Among r rs → r.matching ≡ match_view m → rank_of r ≡ rank → Has (without r.number rs)

-- the same of a rule of one table
abbrev pub AddsRuleIn : ℕ → Match → Rank → (List Rule → Type 0) → (List Rule → Type 0) → Type 0
AddsRuleIn table m rank Had Has = (rs : List Rule) (r : Rule) → Had rs → r.table ≡ table → r.matching ≡ match_view m → rank_of r ≡ rank → Has (rs ++ r ∷ [])

abbrev pub TakesRuleIn : ℕ → Match → Rank → (List Rule → Type 0) → (List Rule → Type 0) → Type 0
TakesRuleIn table m rank Had Has =
    (rs : List Rule) (r : Rule) → Had rs → AreDistinct rs → Among r rs → r.table ≡ table → r.matching ≡ match_view m → rank_of r ≡ rank → Has (without r.number rs)
