use Rattle.std.proofs.Common.{◌≡◌, ◌++◌, ap, subst, get_or, string_bytes, sym, ◌∙◌}
use Rattle.spec_keys.specs.declared.field_id.FieldId.TheVariants.{InPort}
use Rattle.spec_flow_text.specs.Values.{Bits}
use Rattle.spec_flow_text.specs.Printed.{own_name, shown_bits}
use Rattle.spec_run.specs.Megaflows.{stated}
use Rattle.match_text.specs.Shown.{items_text, begun_after}
use Rattle.match_text.proofs.ItemTexts.{one_more, none_left, begins_before}
use Rattle.dump_lines.specs.Views.{match_of}
use Rattle.dump_lines.proofs.megaflows.matches.print_fields.Goals as goal

pub fields-preserved : goal.fields-preserved
fields-preserved c =
    let m = match_of c.args.key.now c.args.mask.now in
    let name = own_name (get_or c.args.fields.now c.fields.field-index InPort) in
    let added = subst (λ (b : Bits). string_bytes c.print_stated.new.out ≡ string_bytes c.fields.out ++ items_text c.fields.begun (shown_bits name b))
    c.bits_of.ensures.bits c.in_ok-begun.ensures.added.text in
    let begun = c.in_ok-begun.ensures.begun ∙ ap (λ (b : Bits). begun_after c.fields.begun (shown_bits name b)) c.bits_of.ensures.bits in
    record {
      printed = rw begun (one_more (stated m) c.fields.begun (string_bytes c.fields.out) (string_bytes c.print_stated.new.out) c.args.fields.now
          c.fields.field-index InPort c.fields-test.true added) ∙ c.fields.invariant.printed;
      kept = begins_before _ _ _ _ c.fields.invariant.kept c.in_ok-begun.ensures.added.text;
    }

pub returns : goal.returns
returns c = record {
  text = sym (none_left (stated (match_of c.args.key.now c.args.mask.now)) c.fields.begun (string_bytes c.fields.out) c.args.fields.now c.fields.field-index c.fields-test.false)
      ∙ c.fields.invariant.printed;
  kept = tt;
}
