use Rattle.std.proofs.Common.{ℕ, ◌≤◌, IsTrue, subst}
use Rattle.std.specs.List.{list_all}
use Rattle.spec_tables.specs.Rules as tables
use Rattle.rule_tables.specs.History.{applied}
use Rattle.ovs_fields.specs.Packed.{bits}
use Rattle.dump_lines.specs.Live.{live_in}
use Rattle.rule_changes.specs.Lockstep.{keeps}
use Rattle.rule_changes.proofs.NumberLaws.{none_yet, one_more, all_done}
use Rattle.rule_changes.proofs.kept.all_keep.Goals as goal

pub numbers-init : goal.numbers-init
numbers-init c = none_yet (λ (r : tables.Rule). IsTrue (list_all (keeps (bits c.args.kept.now)) r.actions)) c.args.rules.now c.requires.of_edits

pub numbers-preserved : goal.numbers-preserved
numbers-preserved c =
    one_more (λ (r : tables.Rule). IsTrue (list_all (keeps (bits c.args.kept.now)) r.actions)) (live_in c.args.rules.now) c.requires.runnable c.numbers.before
    c.numbers.invariant (λ r found number. c.rule_keeps.ensures c.if-not-rule_keeps.false r found)

pub returns : goal.returns
returns c is =
    let past : applied c.args.rules.now.edits ≤ c.numbers.before = subst (λ (n : ℕ). n ≤ c.numbers.before) c.edits-before-end.ensures c.numbers-test.false in
    all_done (λ (r : tables.Rule). IsTrue (list_all (keeps (bits c.args.kept.now)) r.actions)) c.args.rules.now c.requires.of_edits c.numbers.before c.numbers.invariant past
