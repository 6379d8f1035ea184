-- Parts of the lines of rules.
use Rattle.std.specs.Prelude.{ℕ, List, ◌++◌, codes}
use Rattle.std.specs.Fmt.{decimal}
use Rattle.spec_flow_text.specs.NumbersPrinted.{hexadecimal}
use Rattle.spec_tables.specs.Rules.{Rule}
use Rattle.spec_flow_text.specs.Printed.{match_printed, actions_printed}
use Rattle.spec_run.specs.declared.rule_counts.RuleCounts.{RuleCounts}
use Rattle.spec_run.specs.Rules.{after_comma, counts_text}

-- the actions and the number
abbrev pub done_text : Rule → List ℕ
done_text r = codes " actions=" ++ (actions_printed r.actions ++ (codes " # rule=" ++ decimal r.number))

-- what stands behind the counts
abbrev pub stated_text : Rule → List ℕ
stated_text r = codes ", priority=" ++ (decimal r.priority ++ (after_comma (match_printed r.matching) ++ done_text r))

-- the counts, and what stands behind them
abbrev pub counted_text : RuleCounts → Rule → List ℕ
counted_text counts r = codes ", " ++ (counts_text (codes ", ") counts ++ stated_text r)

-- all but the line feed
abbrev pub rule_text : RuleCounts → Rule → List ℕ
rule_text counts r = codes "cookie=" ++ (hexadecimal r.cookie ++ (codes ", table=" ++ (decimal r.table ++ counted_text counts r)))

abbrev pub gone_text : RuleCounts → ℕ → List ℕ
gone_text counts rule = codes "# gone rule=" ++ (decimal rule ++ (codes " " ++ counts_text (codes " ") counts))
