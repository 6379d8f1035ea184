use Rattle.std.proofs.Common.{All}
use Rattle.std.specs.Prelude.{nat_eq}
use Rattle.std.specs.List.{IsDistinct}
use Rattle.spec_case.specs.Run.{Run}
use Rattle.run_boards.proofs.arrivals.Places.{are_arrivals}
use Rattle.run_boards.specs.Scheduled.{IsKnown}
use Rattle.run_boards.proofs.Whole.{are_whole}
use Rattle.run_boards.proofs.finished.Finished.new.Goals as goal

pub invariant_of-result : goal.invariant_of-result
invariant_of-result g c =
    let run : Run = g.C.Case.run in
    let known : All (IsKnown run) c.args.boards = rw c.as_slice.ensures.list at c.recall_laws.ensures in
    let distinct : IsDistinct nat_eq run.ports = rw c.ports.ensures at c.len.ensures.distinct in record {
      finished = c.requires;
      whole = are_whole run c.args.boards c.as_slice.ensures.are known c.requires;
      ordered = c.in_ok-came.ensures;
      each = rw c.in_ok-came.ensures (are_arrivals run distinct);
    }
