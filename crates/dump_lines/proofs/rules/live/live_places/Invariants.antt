use Rattle.rule_tables.specs.History.{applied}
use Rattle.dump_lines.specs.Live.{live_in}
use Rattle.dump_lines.proofs.rules.Listed.{AreListedTo}
use Rattle.dump_lines.proofs.rules.live.live_places.Given as goal

abbrev pub invariant-numbers : goal.invariant-numbers
invariant-numbers l = AreListedTo (live_in l.rules) l.before (applied l.rules.edits) l.places.items
