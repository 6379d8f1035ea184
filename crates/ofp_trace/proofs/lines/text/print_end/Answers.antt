use Rattle.std.proofs.Common.{ℕ, List, ◌∙◌, subst}
use Rattle.spec_actions.specs.declared.action.DpAction.{DpAction}
use Rattle.ovs_fields.specs.Packed.{numbers, bits}
use Rattle.text_numbers.specs.Added.{Adds}
use Rattle.dump_lines.proofs.rules.Pieces.{then_adds}
use Rattle.ofp_trace.specs.Pieces.{ended_text}
use Rattle.ofp_trace.proofs.lines.text.print_end.Goals as goal

pub returns : goal.returns
returns c =
    let key = numbers c.args.key.now in
    let end = numbers c.args.traced.now.last in
    let T : List ℕ → List DpAction → Type 0 = λ mask actions. Adds c.args.out.now c.print_datapath_line.new.out (ended_text key end mask actions) c.print_datapath_line.result in
    let rest = then_adds c.print_key_line.new.out c.print_megaflow_line.new.out c.print_datapath_line.new.out _ _ c.print_datapath_line.result
    c.in_ok-print_megaflow_line.ensures.text c.print_datapath_line.ensures in
    let all : T (bits c.mask.result.now) c.as_slice.result.now = then_adds c.args.out.now c.print_key_line.new.out c.print_datapath_line.new.out _ _ c.print_datapath_line.result
    c.in_ok-print_key_line.ensures.text rest in
    subst (λ (mask : List ℕ). T mask c.args.traced.now.translated.translation.actions) c.mask.ensures
    (subst (λ (actions : List DpAction). T (bits c.mask.result.now) actions) (c.as_slice.ensures ∙ c.actions.ensures) all)
