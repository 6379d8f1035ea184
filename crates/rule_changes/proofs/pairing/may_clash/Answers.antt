use Rattle.std.proofs.Common.{ℕ, List, ap, ◌∙◌}
use Rattle.spec_keys.specs.Keys.{agree}
use Rattle.ovs_fields.specs.Packed.{numbers}
use Rattle.rule_changes.proofs.OrderLaws.{dont_clash}
use Rattle.rule_changes.proofs.pairing.may_clash.Goals as goal

pub returns : goal.returns
returns c =
    let a = c.args.a.now in
    let b = c.args.b.now in
    dont_clash a.rule.now a.actions.now b.rule.now b.actions.now c.agree.result c.are_same_actions.result
    (c.agree.ensures ∙ ap (λ (m : List ℕ). agree (numbers a.rule.now.matching.key) (numbers b.rule.now.matching.key) m) c.and.ensures)
    c.are_same_actions.ensures
