use Rattle.text_numbers.proofs.Adding.{then, same_text}
use Rattle.dump_lines.specs.Views.{entry_with}
use Rattle.dump_lines.proofs.megaflows.LineParts.{line_of_parts}
use Rattle.dump_lines.proofs.megaflows.lines.push_megaflow.Goals as goal

pub returns : goal.returns
returns c =
    same_text (line_of_parts c.args.port (entry_with c.args.actions.now c.args.entry.now)) (then c.in_ok-print_entry.ensures c.print_actions.ensures)
