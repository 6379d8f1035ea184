use Rattle.std.proofs.Common.{Err, ap, ◌∙◌}
use Rattle.std.proofs.lemmas.Result.{err_from_is_err_and}
use Rattle.std.specs.Prelude.{codes}
use Rattle.spec_board.specs.Texts.{line_of, word_with}
use Rattle.board_steps.specs.StepViews.{steps_view}
use Rattle.flow_dump.specs.Lines.{steps_text}
use Rattle.flow_dump.proofs.journal.write_journal.Goals as goal
use Rattle.edge_io.proofs.InTurn.{first_cut, second}

pub returns-in_err-write_port-clause-writes : goal.returns-in_err-write_port-clause-writes
returns-in_err-write_port-clause-writes g c =
    let p = err_from_is_err_and c.from_residual.result c.from_residual.ensures.1 in
    let port = line_of (word_with (codes "port") c.port.result) in
    let steps = steps_text c.args.board.now.journal in
    rw (← c.port.ensures.same) (first_cut g.S.Shelf c.args.shelf.now c.write_port.new.shelf c.from_residual.result port steps _ (p.1 ∙ ap Err p.2) c.in_err-write_port.ensures.writes)

pub returns-clause-writes : goal.returns-clause-writes
returns-clause-writes g c =
    let port = line_of (word_with (codes "port") c.port.result) in
    let steps = steps_text (steps_view c.journal.result.now) in
    rw (← c.port.ensures.same, ← c.journal.ensures.same)
    (second g.S.Shelf c.args.shelf.now c.write_steps.new.shelf c.write_steps.result c.write_port.new.shelf port steps _ c.in_ok-write_port.ensures.writes c.write_steps.ensures.writes)
