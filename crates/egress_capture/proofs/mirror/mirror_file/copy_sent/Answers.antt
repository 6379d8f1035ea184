use Rattle.edge_io.proofs.InTurn.{none_yet}
use Rattle.spec_case.specs.Run.{frame_at}
use Rattle.spec_run.specs.Journals.{actions_for}
use Rattle.egress_capture.proofs.Unsent.{nothing_sent}
use Rattle.egress_capture.proofs.mirror.mirror_file.copy_sent.Goals as goal

pub returns-then-not-may_send_to_one-clause-writes : goal.returns-then-not-may_send_to_one-clause-writes
returns-then-not-may_send_to_one-clause-writes g c =
    let run = g.C.Case.run in
    let a = c.args.arrival in
    let frame = frame_at run a.port a.place in
    let absent = c.may_send_to_one.ensures c.if-not-may_send_to_one.true in
    let nothing = nothing_sent c.args.filter.bits c.args.ports.now absent frame.time (actions_for run c.args.finished.now a.port a.place) frame.bytes c.requires.filter in
    rw nothing (none_yet g.S.Shelf c.args.shelf.now c.requires.in_use)
