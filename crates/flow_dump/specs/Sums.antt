-- Sums of counts.
use Rattle.std.specs.Prelude.{ℕ, ◌+◌, ◌*◌, ◌<◌, ◌^◌, List, map}
use Rattle.std.specs.List.{sum_by}
use Rattle.spec_board.specs.State.{Total}
use Rattle.spec_board.specs.Counts.{times_visited}
use Rattle.megaflow_table.specs.declared.entry.Entry.{Entry}
use Rattle.spec_run.specs.declared.rule_counts.RuleCounts.{RuleCounts}

abbrev pub sum_view : RuleCounts → Total
sum_view c = record { packets = c.packets; bytes = c.bytes }

abbrev pub sums_view : List RuleCounts → List Total
sums_view counts = map sum_view counts

-- The numbers have 128 bits.
pub record Fits (t : Total) : Type 0 where
  pub packets : t.packets < 2 ^ 128
  pub bytes : t.bytes < 2 ^ 128

-- one total more
abbrev pub with_total : Total → Total → Total
with_total more t = record { packets = t.packets + more.packets; bytes = t.bytes + more.bytes }

-- what megaflows owe a rule
abbrev pub owed_packets : ℕ → List Entry → ℕ
owed_packets rule flows = sum_by (λ (e : Entry). times_visited rule e.visits * e.owed_packets) flows

abbrev pub owed_bytes : ℕ → List Entry → ℕ
owed_bytes rule flows = sum_by (λ (e : Entry). times_visited rule e.visits * e.owed_bytes) flows

abbrev pub with_owed : ℕ → List Entry → Total → Total
with_owed rule flows t = record { packets = t.packets + owed_packets rule flows; bytes = t.bytes + owed_bytes rule flows }
