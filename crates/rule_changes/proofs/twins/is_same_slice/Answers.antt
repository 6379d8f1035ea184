use Rattle.std.proofs.Common.{◌&&◌, ◌==◌, Bool, sym, ap, ◌∙◌}
use Rattle.rule_changes.proofs.SameActions.{same_slice}
use Rattle.rule_changes.proofs.twins.is_same_slice.Goals as goal

pub returns : goal.returns
returns c h =
    let a = c.args.a in
    let b = c.args.b in
    same_slice a b (ap (λ (t : Bool). t && ((a.low == b.low) && (a.high == b.high))) (sym c.eq.ensures) ∙ h)
