use Rattle.std.proofs.Common.{arith}
use Rattle.switch_app.proofs.WithWorkers.{by_workers}
use Rattle.switch_app.proofs.run.decide.Goals as goal

pub returns-clause-journals : goal.returns-clause-journals
returns-clause-journals g c =
    by_workers c.args.command.now.workers g.C.Case.run c.in_ok-finished.finished (omega (arith, c.if-command-eq0.false)) c.boards.ensures.whole
