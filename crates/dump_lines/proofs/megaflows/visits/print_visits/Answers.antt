use Rattle.text_numbers.proofs.Adding.{same_text}
use Rattle.dump_lines.proofs.megaflows.RunTexts.{no_visits, all_visits}
use Rattle.dump_lines.proofs.megaflows.visits.print_visits.Goals as goal

pub returns-in-empty : goal.returns-in-empty
returns-in-empty c = same_text (no_visits c.args.visits.now c.in-empty.len_below) c.print_word.ensures

pub returns-in-len1-up : goal.returns-in-len1-up
returns-in-len1-up c = same_text (all_visits c.args.visits.now c.in-len1-up.len_at_least) c.print_runs.ensures
