use Rattle.std.proofs.Common.{take}
use Rattle.std.specs.List.{flat_map}
use Rattle.edge_io.specs.Written.{HasWritten}
use Rattle.dump_lines.specs.declared.rules.places.RulePlace.{RulePlace}
use Rattle.flow_dump.specs.RuleTexts.{live_text}
use Rattle.flow_dump.proofs.rules.write_live_rules.Given as goal

abbrev pub invariant-places : goal.invariant-places
invariant-places g l =
    HasWritten g.S.Shelf l.fn.shelf l.shelf (flat_map (λ (p : RulePlace). live_text l.rules l.counts p.number) (take l.place-index l.order))
