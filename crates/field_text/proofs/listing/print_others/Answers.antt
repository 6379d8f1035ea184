use Rattle.std.proofs.Common.{string_bytes}
use Rattle.field_text.proofs.CommaSteps.{next_joined, all_joined, longer}
use Rattle.field_text.proofs.listing.print_others.Goals as goal

pub others-preserved : goal.others-preserved
others-preserved g c = record {
  so_far = next_joined g.P.ItemPrinter.text _ (string_bytes c.others.out) (string_bytes c.print_after_comma.new.out) c.args.others.now c.others.item-index c.item-item.result
      c.others-test.true c.item-item.is c.in_ok-print_after_comma.ensures.text c.others.invariant.so_far;
  kept = longer (string_bytes c.args.out.now) (string_bytes c.others.out) (string_bytes c.print_after_comma.new.out) _ c.others.invariant.kept c.in_ok-print_after_comma.ensures.text;
}

pub returns : goal.returns
returns g c = record {
  text = all_joined g.P.ItemPrinter.text _ (string_bytes c.others.out) c.args.others.now c.others.item-index c.others-test.false c.others.invariant.so_far;
  kept = tt;
}
