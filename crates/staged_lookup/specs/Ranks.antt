-- The ranks of rules: what decides among those that match.
use Rattle.std.specs.Prelude.{ℕ, ◌&&◌, ◌||◌, ◌==◌, not, nat_lt, Bool, if◌then◌else◌, List, [], ◌∷◌, Option, Some, None}
use Rattle.spec_tables.specs.Rules.{Rule}
use Rattle.staged_lookup.specs.declared.rank.Rank.{Rank}

abbrev pub rank_of : Rule → Rank
rank_of r = record { priority = r.priority; number = r.number }

-- whether the second wins over the first
abbrev pub is_outranked : Rank → Rank → Bool
is_outranked r s = nat_lt r.priority s.priority || ((r.priority == s.priority) && nat_lt s.number r.number)

abbrev pub better_rank : Rank → Option Rank → Option Rank
better_rank r None = Some r
better_rank r (Some s) = if is_outranked r s then Some s else Some r

-- the best of a list
abbrev pub best_rank : List Rank → Option Rank
best_rank [] = None
best_rank (r ∷ rs) = better_rank r (best_rank rs)

-- whether a rank isn't that of a number
abbrev pub is_other : ℕ → Rank → Bool
is_other number r = not (r.number == number)
