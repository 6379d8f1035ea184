-- What totals are seen as: a list with the total of each rule.
use Rattle.std.specs.Prelude.{ℕ, ◌-◌, ◌^◌, ◌==◌, ◌<◌, ◌≤◌, if◌then◌else◌, List, length, map, slice_index_or}
use Rattle.spec_board.specs.State.{Total}
use Rattle.port_caches.specs.declared.stats.counts.Counts.{Counts}

abbrev pub nothing : Total
nothing = record { packets = 0; bytes = 0 }

-- the total of a rule; rules are counted from 1, and what is none has nothing
abbrev pub total_of : List Total → ℕ → Total
total_of totals rule = if rule == 0 then nothing else slice_index_or totals (rule - 1) nothing

-- The number is that of one of the rules.
pub record IsRule (totals : List Total) (rule : ℕ) : Type 0 where
  pub first : 1 ≤ rule
  pub last : rule ≤ length totals

-- A total has numbers of 64 bits.
pub record IsCountable (total : Total) : Type 0 where
  pub packets : total.packets < 2 ^ 64
  pub bytes : total.bytes < 2 ^ 64

abbrev pub total_view : Counts → Total
total_view c = record { packets = c.packets; bytes = c.bytes }

abbrev pub totals_view : List Counts → List Total
totals_view counts = map total_view counts
