use Rattle.std.proofs.Common.{◌≡◌, List, drop}
use Rattle.std.specs.Option.{option_map}
use Rattle.ovs_fields.specs.Packed.{numbers}
use Rattle.rule_tables.specs.declared.stored.Modification.{Modification}
use Rattle.rule_tables.specs.Stored.{stored_in}
use Rattle.rule_tables.proofs.Winners.{winner_in}
use Rattle.rule_tables.proofs.search.winner_of.Given as goal

abbrev pub invariant-rules : goal.invariant-rules
invariant-rules l =
    (made : List Modification) → option_map (λ s. stored_in made l.after s.now) l.best ≡ winner_in made l.after l.table (numbers l.key) (drop l.i l.rules)
