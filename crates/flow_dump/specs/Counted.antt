-- What boards counted of a rule.
use Rattle.std.specs.Prelude.{◌≡◌, ℕ, ◌+◌, ◌-◌, ◌<◌, ◌≤◌, ◌^◌, List, length, slice_index_or}
use Rattle.spec_case.specs.Run.{Run, edit_count}
use Rattle.spec_board.specs.State.{Total}
use Rattle.spec_board.specs.Counts.{owed_packets, owed_bytes}
use Rattle.spec_board.specs.Texts.{Journal}
use Rattle.spec_run.specs.declared.rule_counts.RuleCounts.{RuleCounts}
use Rattle.spec_run.specs.Rules.{counts_of, end_of}

-- These are the counts of the rules of a run, in the order of their numbers, which count from 1.
pub record AreCounts (run : Run) (journals : List Journal) (counts : List RuleCounts) : Type 0 where
  pub long : length counts ≡ edit_count run
  pub each : (rule : ℕ) (d : RuleCounts) → 1 ≤ rule → rule ≤ edit_count run → slice_index_or counts (rule - 1) d ≡ counts_of run journals rule

-- what the board of a journal counted of a rule
abbrev pub counts_at : Run → Journal → ℕ → Total
counts_at run j rule = record {
  packets = ((end_of run j).totals rule).packets + owed_packets rule (end_of run j).entries;
  bytes = ((end_of run j).totals rule).bytes + owed_bytes rule (end_of run j).entries;
}

-- A board counts no more than this.
pub record IsBoundedAt (run : Run) (j : Journal) (rule : ℕ) : Type 0 where
  pub packets : (counts_at run j rule).packets < 2 ^ 60
  pub bytes : (counts_at run j rule).bytes < 2 ^ 60

-- There is room for the counts of one more board.
pub record HasRoom (t : Total) : Type 0 where
  pub packets : t.packets + 2 ^ 60 ≤ 2 ^ 128
  pub bytes : t.bytes + 2 ^ 60 ≤ 2 ^ 128
