use Rattle.std.proofs.Common.{◌≡◌, ℕ, get_or, ap, ◌∙◌, arith}
use Rattle.std.proofs.lemmas.List.{get_or_default}
use Rattle.spec_actions.specs.declared.action.DpAction.TheVariants.{Output}
use Rattle.egress_capture.proofs.Filters.{of_output}
use Rattle.egress_capture.proofs.port_filter.PortFilter.of.Goals as goal

pub returns-in-Output-clause-passes : goal.returns-in-Output-clause-passes
returns-in-Output-clause-passes c = λ port absent k d lt.
    let actions = c.args.actions.now in
    let apart = of_output c.in-Output.port port (rw c.mask_of.ensures at absent) in
    let this : get_or actions 0 (Output 0) ≡ Output c.in-Output.port = search in
    let first : k ≡ 0 = omega (arith, lt, c.in-Output.len_below) in
    let same : get_or actions k d ≡ Output c.in-Output.port =
    ap (λ (i : ℕ). get_or actions i d) first ∙ get_or_default actions 0 d (Output 0) (omega (arith, lt)) ∙ this in
    rw same apart
