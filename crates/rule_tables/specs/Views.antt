-- Matches and rules, as the definitions see them.
use Rattle.std.specs.Prelude.{List}
use Rattle.ovs_fields.specs.Packed.{numbers, bits}
use Rattle.spec_actions.specs.declared.action.OfAction.{OfAction}
use Rattle.spec_tables.specs.Rules as tables
use Rattle.rule_tables.specs.declared.matching.Match.{Match}
use Rattle.rule_tables.specs.declared.rule.Rule.{Rule}

abbrev pub match_view : Match → tables.Match
match_view m = record { key = numbers m.key; mask = bits m.mask }

-- a rule with these actions
abbrev pub rule_view : Rule → List OfAction → tables.Rule
rule_view r actions = record { number = r.number; table = r.table; priority = r.priority; cookie = r.cookie; matching = match_view r.matching; actions = actions }
