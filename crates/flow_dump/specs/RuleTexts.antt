-- The lines of rules, by their numbers.
use Rattle.std.specs.Prelude.{ℕ, ◌-◌, if◌then◌else◌, List, [], ◌++◌, slice_index_or}
use Rattle.std.specs.List.{flat_map, range_with_len}
use Rattle.rule_tables.specs.History.{History, applied}
use Rattle.spec_run.specs.declared.rule_counts.RuleCounts.{RuleCounts}
use Rattle.spec_run.specs.Rules.{gone_line_with}
use Rattle.dump_lines.specs.declared.rules.places.RulePlace.{RulePlace}
use Rattle.dump_lines.specs.Live.{live_line, is_gone_in}

-- the counts of a rule, in a list by numbers
abbrev pub counts_in : List RuleCounts → ℕ → RuleCounts
counts_in counts number = slice_index_or counts (number - 1) (record { packets = 0; bytes = 0 })

-- the line of a live rule
abbrev pub live_text : History → List RuleCounts → ℕ → List ℕ
live_text h counts number = live_line h (counts_in counts number) number

-- the line of a rule that is gone, and nothing of another
abbrev pub gone_text : History → List RuleCounts → ℕ → List ℕ
gone_text h counts number = if is_gone_in h number then gone_line_with (counts_in counts number) number else []

-- the lines of the live rules in some order, and then those of the rules that are gone
abbrev pub lines_of : History → List RuleCounts → List RulePlace → List ℕ
lines_of h counts order =
    flat_map (λ (p : RulePlace). live_text h counts p.number) order ++ flat_map (gone_text h counts) (range_with_len 1 (applied h.edits))
