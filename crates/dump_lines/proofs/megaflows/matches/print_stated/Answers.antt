use Rattle.std.proofs.Common.{◌++◌, ap, string_bytes, sym, ◌∙◌, eq-eqb, ne_eqb}
use Rattle.spec_flow_text.specs.Values.{Bits, within_mask}
use Rattle.spec_flow_text.specs.Printed.{Value, own_name, shown_text}
use Rattle.field_text.specs.Views.{bits_view}
use Rattle.match_text.specs.Shown.{lead}
use Rattle.text_numbers.proofs.Adding.{then, same_text}
use Rattle.dump_lines.proofs.megaflows.Stated.{none_added, nothing_stated, something_stated}
use Rattle.dump_lines.proofs.megaflows.matches.print_stated.Goals as goal

pub returns-then-bits-eq0-clause-added : goal.returns-then-bits-eq0-clause-added
returns-then-bits-eq0-clause-added c =
    same_text (sym (nothing_stated c.args.begun (own_name c.args.field) (bits_view c.args.bits) (eq-eqb _ _ c.if-bits-eq0.true)))
    (none_added c.args.out.now c.args.begun)

pub returns-clause-added : goal.returns-clause-added
returns-clause-added c =
    let name = own_name c.args.field in
    let written = ap (λ (b : Bits). lead c.args.begun ++ shown_text (Value name b)) c.within_mask.ensures.value in
    let r = then c.in_ok-print_lead.ensures c.in_ok-print_bits.ensures in
    let whole = written ∙ something_stated c.args.begun name (bits_view c.args.bits) (ne_eqb _ _ c.if-bits-eq0.false) in
    record { text = r.text ∙ ap (λ t. string_bytes c.args.out.now ++ t) whole; kept = tt }
