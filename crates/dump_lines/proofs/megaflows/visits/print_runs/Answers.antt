use Rattle.std.proofs.Common.{◌≡◌, ◌+◌, get_or, string_bytes, arith}
use Rattle.match_text.proofs.ItemTexts.{begins_before}
use Rattle.spec_run.specs.Megaflows.{once}
use Rattle.dump_lines.specs.Runs.{runs_text}
use Rattle.dump_lines.proofs.megaflows.Ends.{ends}
use Rattle.dump_lines.proofs.megaflows.RunTexts.{visits_of, same_run, next_run, last_run}
use Rattle.dump_lines.proofs.megaflows.visits.print_runs.Goals as goal
use Rattle.dump_lines.proofs.megaflows.visits.print_runs.Goals.{then-next-rule, else-next-rule+in_ok-print_run_before}

pub others-preserved : goal.others-preserved
others-preserved c = elim c.if-next-rule.branch [
  | then-next-rule w ↦ rw (w.out-is, w.rule-is, w.times-is) (record {
    printed = same_run _ (string_bytes c.others.out) c.others.rule c.others.times c.args.others.now c.others.next-index c.others-test.true
        w.if-next-rule.true c.others.invariant.printed;
    kept = c.others.invariant.kept;
    few = omega arith;
  })
  | else-next-rule+in_ok-print_run_before w ↦ rw (w.out-is, w.rule-is, w.times-is) (record {
    printed = next_run _ (string_bytes c.others.out) (string_bytes w.print_run_before.new.out) c.others.rule c.others.times c.args.others.now c.others.next-index
        c.others-test.true w.if-next-rule.false w.in_ok-print_run_before.ensures.text c.others.invariant.printed;
    kept = begins_before _ _ _ _ c.others.invariant.kept w.in_ok-print_run_before.ensures.text;
    few = omega arith;
  })
]

pub returns : goal.returns
returns c =
    ends c.args.out.now c.others.out c.print_run.new.out _ _ c.print_run.result c.others.invariant.kept
    (last_run _ (string_bytes c.others.out) c.others.rule c.others.times c.args.others.now c.others.next-index c.others-test.false c.others.invariant.printed)
    c.print_run.ensures
