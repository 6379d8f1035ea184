-- The better of two ranks, and what may be better.
use Rattle.std.specs.Prelude.{ℕ, Option, Some, None}
pub use Rattle.staged_lookup.specs.Ranks.{rank_of, is_outranked, better_rank}
use Rattle.staged_lookup.specs.declared.rank.Rank.{Rank}

-- the better of the bests of two lists
abbrev pub best_of_pair : Option Rank → Option Rank → Option Rank
best_of_pair None best = best
best_of_pair (Some r) best = better_rank r best

-- the priority below which no rule can win over the best one
abbrev pub floor_of : Option Rank → ℕ
floor_of None = 0
floor_of (Some r) = r.priority
