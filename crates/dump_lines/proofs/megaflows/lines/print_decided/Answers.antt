use Rattle.text_numbers.proofs.Adding.{then}
use Rattle.dump_lines.proofs.megaflows.lines.print_decided.Goals as goal

pub returns : goal.returns
returns c =
    let visits = rw c.as_slice.ensures at c.in_ok-print_visited.ensures in
    then c.in_ok-print_used.ensures (then visits c.print_match.ensures)
