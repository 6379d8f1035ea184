-- The dump of rules. Each line of a live rule can be read again as a line of edits, as long as its actions can be spelled;
-- what is a count there is skipped, and the lines of rules that are gone are comments.
use Rattle.std.specs.Prelude.{ℕ, ◌+◌, Bool, not, if◌then◌else◌, List, [], ◌∷◌, ◌++◌, filter, codes}
use Rattle.std.specs.List.{sum_by, flat_map, range_with_len}
use Rattle.std.specs.Option.{is_some}
use Rattle.std.specs.Ordering.{nat_cmp, is_lt, ordering_then}
use Rattle.std.specs.declared.cmp.Ordering.{Ordering}
use Rattle.std.specs.Fmt.{decimal}
use Rattle.spec_base.specs.Sorting.{sort_by}
use Rattle.spec_flow_text.specs.Characters.{comma}
use Rattle.spec_flow_text.specs.NumbersPrinted.{hexadecimal}
use Rattle.spec_tables.specs.Rules.{Rule}
use Rattle.spec_tables.specs.Bundles.{version}
use Rattle.spec_tables.specs.Live.{rule_added, is_live}
use Rattle.spec_case.specs.Run.{Run, last_version, edit_count}
use Rattle.spec_flow_text.specs.Printed.{match_printed, actions_printed}
use Rattle.spec_board.specs.State.{State}
use Rattle.spec_board.specs.Journals.{after}
use Rattle.spec_board.specs.Counts.{owed_packets, owed_bytes}
use Rattle.spec_board.specs.Texts.{Journal, line_of}
use Rattle.spec_run.specs.declared.rule_counts.RuleCounts.{RuleCounts}

-- ---- counts

-- what the board of a journal is at its end
abbrev pub end_of : Run → Journal → State
end_of run j = after run j.port j.steps

-- the packets and the bytes of a rule: what it was credited with at all ports, and what megaflows owe it there
abbrev pub packets_of : Run → List Journal → ℕ → ℕ
packets_of run journals rule =
    sum_by (λ (j : Journal). ((end_of run j).totals rule).packets + owed_packets rule (end_of run j).entries) journals

abbrev pub bytes_of : Run → List Journal → ℕ → ℕ
bytes_of run journals rule =
    sum_by (λ (j : Journal). ((end_of run j).totals rule).bytes + owed_bytes rule (end_of run j).entries) journals

-- both counts of a rule
abbrev pub counts_of : Run → List Journal → ℕ → RuleCounts
counts_of run journals rule = record { packets = packets_of run journals rule; bytes = bytes_of run journals rule }

-- counts, with a text between them
abbrev pub counts_text : List ℕ → RuleCounts → List ℕ
counts_text between counts = codes "n_packets=" ++ (decimal counts.packets ++ (between ++ (codes "n_bytes=" ++ decimal counts.bytes)))

-- ---- order

-- by table, then by falling priority, then by number
abbrev pub rule_cmp : Rule → Rule → Ordering
rule_cmp r s =
    ordering_then (nat_cmp r.table s.table) (ordering_then (nat_cmp s.priority r.priority) (nat_cmp r.number s.number))

abbrev pub comes_before : Rule → Rule → Bool
comes_before r s = is_lt (rule_cmp r s)

abbrev pub in_order : List Rule → List Rule
in_order rules = sort_by comes_before rules

-- ---- lines

-- a match stands after the priority, with a comma between them, where it isn't empty
abbrev pub after_comma : List ℕ → List ℕ
after_comma [] = []
after_comma text = comma ∷ text

abbrev pub rule_line_with : RuleCounts → Rule → List ℕ
rule_line_with counts r = line_of (
    codes "cookie=" ++ (hexadecimal r.cookie ++ (codes ", table=" ++ (decimal r.table ++ (codes ", "
    ++ (counts_text (codes ", ") counts ++ (codes ", priority=" ++ (decimal r.priority ++ (after_comma (match_printed r.matching)
    ++ (codes " actions=" ++ (actions_printed r.actions ++ (codes " # rule=" ++ decimal r.number))))))))))))

abbrev pub gone_line_with : RuleCounts → ℕ → List ℕ
gone_line_with counts rule = line_of (codes "# gone rule=" ++ (decimal rule ++ (codes " " ++ counts_text (codes " ") counts)))

-- with the counts that journals make
abbrev pub rule_line : Run → List Journal → Rule → List ℕ
rule_line run journals r = rule_line_with (counts_of run journals r.number) r

abbrev pub gone_line : Run → List Journal → ℕ → List ℕ
gone_line run journals rule = gone_line_with (counts_of run journals rule) rule

-- the rules that are live in the last version
abbrev pub live_rules : Run → List Rule
live_rules run = version run.edits run.bundles (last_version run)

-- the numbers of the rules that an edit added and that aren't live in the last version, in rising order
abbrev pub is_gone : Run → ℕ → Bool
is_gone run rule = if is_live rule (live_rules run) then not (is_some (rule_added run.edits rule)) else is_some (rule_added run.edits rule)

abbrev pub gone_rules : Run → List ℕ
gone_rules run = filter (is_gone run) (range_with_len 1 (edit_count run))

-- the dump of the rules of a run, with the counts that its journals make
abbrev pub rules_text : Run → List Journal → List ℕ
rules_text run journals =
    flat_map (rule_line run journals) (in_order (live_rules run)) ++ flat_map (gone_line run journals) (gone_rules run)
