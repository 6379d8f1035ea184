use Rattle.std.proofs.Common.{arith, ◌≡◌, max, subst}
use Rattle.spec_case.specs.Run.{Run}
use Rattle.spec_case.specs.Blocks.{hi}
use Rattle.run_boards.specs.Scheduled.{TookTurns}
use Rattle.step_runner.proofs.Turns.{turns_done, turns_version, turns_made}
use Rattle.step_runner.proofs.finishing.finish_least_block.Goals as goal

pub returns-clause-version : goal.returns-clause-version
returns-clause-version g c =
    let run : Run = g.C.Case.run in
    let block = c.args.block in
    let left = c.finish_boards.new.boards.items in
    let took = subst (λ bs. TookTurns run block c.args.tables.now bs left) c.into_vec-left.ensures.list c.in_ok-finish_boards.ensures in
    rw c.from_vec.ensures (turns_version run block c.args.tables.now c.args.boards left took c.last_block.ensures.in_order c.requires.least c.requires.version)

pub returns-clause-done : goal.returns-clause-done
returns-clause-done g c =
    let run : Run = g.C.Case.run in
    let block = c.args.block in
    let left = c.finish_boards.new.boards.items in
    let took = subst (λ bs. TookTurns run block c.args.tables.now bs left) c.into_vec-left.ensures.list c.in_ok-finish_boards.ensures in
    rw c.from_vec.ensures (turns_done run block c.args.tables.now c.args.boards left took c.requires.least)

pub returns-clause-scheduled : goal.returns-clause-scheduled
returns-clause-scheduled g c = λ newest before.
    let run : Run = g.C.Case.run in
    let block = c.args.block in
    let left = c.finish_boards.new.boards.items in
    let took = subst (λ bs. TookTurns run block c.args.tables.now bs left) c.into_vec-left.ensures.list c.in_ok-finish_boards.ensures in
    let at = c.requires.version in
    let v : c.args.tables.now ≡ max newest (hi run block) = omega (arith, at, before) in
    rw c.from_vec.ensures (turns_made run block c.args.tables.now c.args.boards left took newest c.requires.least v)
