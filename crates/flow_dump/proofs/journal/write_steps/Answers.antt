use Rattle.std.proofs.Common.{◌≡◌, ℕ, ◌+◌, ◌-◌, List, ◌++◌, Err, ap, sym, ◌∙◌, arith, rules, take, drop}
use Rattle.std.specs.List.{flat_map}
use Rattle.std.proofs.Math.Seq.{take-add}
use Rattle.std.proofs.lemmas.List.{take_all}
use Rattle.std.proofs.lemmas.List.Elements.{All-append, All-map}
use Rattle.std.proofs.lemmas.Result.{err_from_is_err_and}
use Rattle.edge_io.proofs.InTurn.{none_yet, cut_within, more}
use Rattle.board_steps.specs.declared.step.Step.{Step}
use Rattle.board_steps.specs.StepViews.{step_view}
use Rattle.board_steps.specs.Printable.{IsPrintableStep}
use Rattle.flow_dump.proofs.Lines.{line_of_step, steps_text-is, lines_around, lines_of_both}
use Rattle.flow_dump.proofs.journal.write_steps.Goals as goal

abbrev lines : List Step → List ℕ
lines = flat_map line_of_step

pub returns-in_err-write_lines-clause-writes : goal.returns-in_err-write_lines-clause-writes
returns-in_err-write_lines-clause-writes g c =
    let p = err_from_is_err_and c.from_residual-in_err-write_lines.result c.from_residual-in_err-write_lines.ensures.1 in
    let n = c.min-end.result - c.pieces.done in
    let steps = c.args.steps.now in
    let behind = drop c.pieces.done steps in
    let cut = rw steps_text-is at c.in_err-write_lines.ensures.writes in
    rw steps_text-is (cut_within g.S.Shelf _ _ _ (lines (take c.pieces.done steps)) (lines (take n behind)) (lines (drop n behind)) (lines steps)
    (lines_around steps c.pieces.done n) c.pieces.invariant.wrote _ _ (p.1 ∙ ap Err p.2) cut)

pub pieces-init : goal.pieces-init
pieces-init g c = record { within = omega arith; wrote = none_yet g.S.Shelf _ c.requires; printable = search rules }

pub pieces-preserved : goal.pieces-preserved
pieces-preserved g c =
    let n = c.min-end.result - c.pieces.done in
    let steps = c.args.steps.now in
    let behind = drop c.pieces.done steps in
    let end : c.pieces.done + n ≡ c.min-end.result = omega arith in
    let upto : take c.min-end.result steps ≡ take c.pieces.done steps ++ take n behind = ap (λ at. take at steps) (sym end) ∙ take-add c.pieces.done n steps in
    let piece = rw steps_text-is at c.in_ok-write_lines.ensures.writes in
    record {
      within = omega arith;
      wrote = more g.S.Shelf _ _ _ (lines (take c.pieces.done steps)) (lines (take n behind)) _ (ap lines upto ∙ lines_of_both (take c.pieces.done steps) (take n behind))
          c.pieces.invariant.wrote _ piece;
      printable =
          rw upto (All-append (λ step. IsPrintableStep (step_view step)) (take c.pieces.done steps) (take n behind) c.pieces.invariant.printable
          c.in_ok-write_lines.ensures.printable);
    }

pub returns-clause-writes : goal.returns-clause-writes
returns-clause-writes g c =
    let all = take_all c.pieces.done c.args.steps.now (omega arith) in
    rw (steps_text-is, ← all) c.pieces.invariant.wrote

pub returns-clause-printable : goal.returns-clause-printable
returns-clause-printable g c =
    let all = take_all c.pieces.done c.args.steps.now (omega arith) in
    All-map IsPrintableStep step_view c.args.steps.now (rw all at c.pieces.invariant.printable)
