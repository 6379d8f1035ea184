use Rattle.std.proofs.Common.{◌^◌}
use Rattle.dump_lines.proofs.megaflows.Ends.{ten_positive}
use Rattle.dump_lines.proofs.megaflows.times.print_digit_at.Goals as goal

pub nonzero_div-digit : goal.nonzero_div-digit
nonzero_div-digit c = rw (c.pow.ensures, c.from.ensures) (ten_positive c.args.place)
