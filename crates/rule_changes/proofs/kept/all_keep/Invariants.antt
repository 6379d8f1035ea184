use Rattle.std.proofs.Common.{IsTrue}
use Rattle.std.specs.List.{list_all}
use Rattle.spec_tables.specs.Rules as tables
use Rattle.ovs_fields.specs.Packed.{bits}
use Rattle.dump_lines.specs.Live.{live_in}
use Rattle.rule_changes.specs.Lockstep.{keeps}
use Rattle.rule_changes.proofs.NumberLaws.{UpTo}
use Rattle.rule_changes.proofs.kept.all_keep.Given as goal

-- the rules so far leave these bits
abbrev pub invariant-numbers : goal.invariant-numbers
invariant-numbers l = UpTo (λ (r : tables.Rule). IsTrue (list_all (keeps (bits l.kept)) r.actions)) (live_in l.rules) l.before
