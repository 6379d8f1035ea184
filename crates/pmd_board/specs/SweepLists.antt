-- The list of a sweep.
use Rattle.std.specs.Prelude.{ℕ, not, List, filter}
use Rattle.spec_board.specs.Steps.{Settled, Present, Full, Installed}
use Rattle.spec_board.specs.Effects.{is_among}

-- the list without the entries that a settle dropped
abbrev pub without_dropped : Settled → List ℕ → List ℕ
without_dropped (Present n) listed = listed
without_dropped Full listed = listed
without_dropped (Installed n numbers) listed = filter (λ m. not (is_among numbers m)) listed
