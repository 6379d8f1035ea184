-- How many steps there are of each result.
use Rattle.std.specs.Prelude.{ℕ, ◌+◌, ◌≤◌, Bool, if◌then◌else◌, List, count_by}
use Rattle.spec_board.specs.Steps.{Step}
use Rattle.spec_board.specs.Texts.{Journal}
use Rattle.spec_run.specs.Summary.{is_exact, is_mega, is_miss, is_installed, is_present, is_full, count_steps}
use Rattle.flow_dump.specs.declared.step_counts.StepCounts.{StepCounts}

-- the counts, by how many steps pass a test
abbrev counts_by : ((Step → Bool) → ℕ) → StepCounts
counts_by count = record {
  exact = count is_exact;
  mega = count is_mega;
  miss = count is_miss;
  installed = count is_installed;
  present = count is_present;
  full = count is_full;
}

-- the counts of some steps
abbrev pub counts_of : List Step → StepCounts
counts_of steps = counts_by (λ test. count_by test steps)

-- the counts of the steps of some journals
abbrev pub counts_of_all : List Journal → StepCounts
counts_of_all journals = counts_by (λ test. count_steps test journals)

abbrev pub plus : StepCounts → StepCounts → StepCounts
plus a b = record {
  exact = a.exact + b.exact;
  mega = a.mega + b.mega;
  miss = a.miss + b.miss;
  installed = a.installed + b.installed;
  present = a.present + b.present;
  full = a.full + b.full;
}

abbrev one_if : Bool → ℕ
one_if test = if test then 1 else 0

-- counts with one more step
abbrev pub with_step : Step → StepCounts → StepCounts
with_step step c = record {
  exact = c.exact + one_if (is_exact step);
  mega = c.mega + one_if (is_mega step);
  miss = c.miss + one_if (is_miss step);
  installed = c.installed + one_if (is_installed step);
  present = c.present + one_if (is_present step);
  full = c.full + one_if (is_full step);
}

-- Each count is at most this.
pub record AreAtMost (most : ℕ) (c : StepCounts) : Type 0 where
  pub exact : c.exact ≤ most
  pub mega : c.mega ≤ most
  pub miss : c.miss ≤ most
  pub installed : c.installed ≤ most
  pub present : c.present ≤ most
  pub full : c.full ≤ most
