use Rattle.std.proofs.Common.{take}
use Rattle.std.specs.List.{flat_map, range_with_len}
use Rattle.edge_io.specs.Written.{HasWritten}
use Rattle.rule_tables.specs.History.{applied}
use Rattle.flow_dump.specs.RuleTexts.{gone_text}
use Rattle.flow_dump.proofs.rules.write_gone_rules.Given as goal

abbrev pub invariant-numbers : goal.invariant-numbers
invariant-numbers g l =
    HasWritten g.S.Shelf l.fn.shelf l.shelf (flat_map (gone_text l.rules l.counts) (take l.before (range_with_len 1 (applied l.rules.edits))))
