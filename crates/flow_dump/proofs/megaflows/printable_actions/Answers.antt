use Rattle.pmd_board.specs.BoardView.{state_of}
use Rattle.flow_dump.proofs.Numbered.{printable}
use Rattle.flow_dump.proofs.megaflows.printable_actions.Goals as goal

pub returns-clause-within : goal.returns-clause-within
returns-clause-within g c =
    let run = g.C.Case.run in
    let b = c.args.board.now in
    printable run c.args.number (state_of run b).entries c.actions.result.now c.translation_is_within_fields.ensures
    (c.entries_cover_what_they_were_made_for.ensures run b.port b.flow_limit b.journal c.journal.ensures.keys c.journal.ensures.legal) c.actions.ensures
