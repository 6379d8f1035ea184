-- What the counts of a board come to.
use Rattle.std.specs.Prelude.{◌≡◌, ℕ, ◌+◌, ◌*◌, ◌==◌, List, count_by}
use Rattle.std.specs.List.{sum_by}
use Rattle.spec_case.specs.Run.{Run}
use Rattle.spec_board.specs.Steps.{Step}
use Rattle.spec_board.specs.State.{Entry}
use Rattle.spec_board.specs.Journals.{after}
use Rattle.spec_board.specs.Decisions.{due_packets, due_bytes}

-- how often a rule is visited
abbrev pub times_visited : ℕ → List ℕ → ℕ
times_visited rule visits = count_by (λ r. r == rule) visits

-- the packets and the bytes that entries owe to a rule: what each owes, as often as it visits the rule
abbrev pub owed_packets : ℕ → List Entry → ℕ
owed_packets rule entries = sum_by (λ (e : Entry). times_visited rule e.visits * e.owed_packets) entries

abbrev pub owed_bytes : ℕ → List Entry → ℕ
owed_bytes rule entries = sum_by (λ (e : Entry). times_visited rule e.visits * e.owed_bytes) entries

-- What a rule was credited with and what the entries owe it are together what it is due.
pub record IsAccounted (run : Run) (port : ℕ) (steps : List Step) (rule : ℕ) : Type 0 where
  pub packets : ((after run port steps).totals rule).packets + owed_packets rule (after run port steps).entries ≡ due_packets run port steps rule
  pub bytes : ((after run port steps).totals rule).bytes + owed_bytes rule (after run port steps).entries ≡ due_bytes run port steps rule
