use Rattle.std.proofs.Common.{◌≡◌, ◌+◌, ◌≤◌, ◌++◌, drop, string_bytes}
use Rattle.spec_run.specs.Megaflows.{once}
use Rattle.text_numbers.specs.Added.{IsPrefix}
use Rattle.dump_lines.specs.Runs.{runs_text}
use Rattle.dump_lines.proofs.megaflows.RunTexts.{visits_of}
use Rattle.dump_lines.proofs.megaflows.visits.print_runs.Given as goal

-- what is printed so far, and then the run that goes on and the visits to come, are those of all
abbrev pub invariant-others : goal.invariant-others
invariant-others l = record {
  printed : string_bytes l.out ++ runs_text (visits_of l.rule l.times) (drop l.next-index l.others)
      ≡ string_bytes l.fn.out ++ runs_text (once l.first) l.others;
  kept : IsPrefix (string_bytes l.fn.out) (string_bytes l.out);
  few : l.times ≤ l.next-index + 1;
}
