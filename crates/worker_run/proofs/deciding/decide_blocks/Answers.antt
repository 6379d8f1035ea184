use Rattle.std.proofs.Common.{rules, ◌≡◌, true, MatchBool, subst, arith}
use Rattle.spec_case.specs.Run.{Run}
use Rattle.spec_case.specs.Blocks.{last_block}
use Rattle.run_boards.specs.Finished.{AreFinished}
use Rattle.worker_run.proofs.deciding.decide_blocks.Goals as goal

pub blocks-2-preserved : goal.blocks-2-preserved
blocks-2-preserved g c = λ past.
    let run : Run = g.C.Case.run in
    let block = c.blocks-2.block in
    let boards = c.in_ok-next.next.boards in
    let fits : c.in_ok-next.fit ≡ true = search rules in
    let upto = c.blocks-2-test.true in
    let last = c.last_block-last.ensures.block in
    let done = subst (λ b. MatchBool b (block ≡ last_block run → AreFinished run boards) (AreFinished run boards)) fits c.in_ok-next.ensures in
    done (omega (arith, past, upto, last))
