use Rattle.std.proofs.Common.{string_bytes}
use Rattle.diff_app.proofs.lines.KindLaws.{line_parts, text_step, begins_more}
use Rattle.diff_app.proofs.lines.text.print_lines.Goals as goal

pub lines-preserved : goal.lines-preserved
lines-preserved c =
    let one = c.in_ok-print_line.ensures.text in record {
      whole = text_step (string_bytes c.args.out.now) (string_bytes c.lines.out) _ _ _ _ (string_bytes c.print_line.new.out) c.lines.invariant.whole
          (line_parts c.args.lines.now c.lines.line-index c.line-item.result c.lines-test.true c.line-item.is) one;
      begins = begins_more (string_bytes c.args.out.now) (string_bytes c.lines.out) (string_bytes c.print_line.new.out) _ c.lines.invariant.begins one;
    }
