use Rattle.rule_changes.proofs.OrderLaws.{clash_free}
use Rattle.rule_changes.proofs.pairing.turned.Goals as goal

pub returns-in-Some-Some : goal.returns-in-Some-Some
returns-in-Some-Some c free r t fr ft table priority before after key mr mt =
    let i = c.in-Some-Some in
    clash_free c.args.old.now c.args.p.now.old c.args.q.now.old i.a.rule.now i.b.rule.now i.a.actions.now i.b.actions.now
    i.ensures.some i.ensures'.some (c.may_clash.ensures free) r t fr ft key mr mt
