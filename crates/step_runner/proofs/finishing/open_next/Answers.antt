use Rattle.std.proofs.Common.{arith, ◌≡◌, ◌+◌, ap, subst}
use Rattle.spec_case.specs.Run.{Run}
use Rattle.spec_case.specs.Blocks.{last_block, last_place}
use Rattle.run_case.proofs.blocks.Blocks.{last_place-last}
use Rattle.spec_board.specs.Steps as steps
use Rattle.spec_board.specs.State.{State}
use Rattle.spec_board.specs.Journals.{IsFinished}
use Rattle.pmd_board.specs.BoardView.{BoardView, state_of}
use Rattle.run_boards.specs.Progress.{IsSwept}
use Rattle.step_runner.proofs.LookedUp.{looked_up}
use Rattle.run_boards.proofs.Scheduled.{state_after}
use Rattle.step_runner.proofs.Progress.{may_open, plans_same, finished_from}
use Rattle.step_runner.proofs.finishing.open_next.Goals as goal

pub open_block-requires : goal.open_block-requires
open_block-requires g c =
    let run : Run = g.C.Case.run in
    let b : BoardView = c.args.board.now in
    may_open run b.port (state_of run b) c.args.block c.requires.swept c.requires.all (let more = c.if-block-last.true in let last = c.last_block-last.ensures.block in omega (arith, more, last))

pub returns-then-block-last-clause-past : goal.returns-then-block-last-clause-past
returns-then-block-last-clause-past g c =
    let run : Run = g.C.Case.run in
    let b : BoardView = c.args.board.now in
    let more = c.if-block-last.true in
    let last = c.last_block-last.ensures.block in record {
      next = λ _. ap (λ (s : State). s.block) (state_after run b c.open_block.new.board (steps.Open (c.args.block + 1)) c.open_block.ensures);
      finished = λ is. absurd (omega (arith, is, more, last));
    }

pub returns-then-block-last-clause-only_plans : goal.returns-then-block-last-clause-only_plans
returns-then-block-last-clause-only_plans g c =
    let run : Run = g.C.Case.run in
    let b : BoardView = c.args.board.now in
    let is = state_after run b c.open_block.new.board (steps.Open (c.args.block + 1)) c.open_block.ensures in
    plans_same run b.port (state_of run b) (state_of run c.open_block.new.board) (ap (λ (s : State). s.places) is)

pub returns-else-block-last-clause-past : goal.returns-else-block-last-clause-past
returns-else-block-last-clause-past g c =
    let run : Run = g.C.Case.run in
    let b : BoardView = c.args.board.now in
    let s : State = state_of run b in
    let no_more = c.if-block-last.false in
    let last = c.last_block-last.ensures.block in
    let end : c.args.block ≡ last_block run = omega (arith, no_more, last, c.requires.there) in
    let swept : IsSwept run s (last_block run) = subst (λ k. IsSwept run s k) end c.requires.swept in
    let lawful = c.journal.ensures.lawful in
    let all = c.requires.all in
    let there = ap (last_place run b.port) end in
    let finished : IsFinished run s = finished_from run b.port s lawful.places (looked_up run b.port b.flow_limit b.journal c.journal.ensures.legal) lawful.next_within swept (omega (arith, all, there, last_place-last run b.port)) in record {
      next = λ less. absurd (omega (arith, less, end));
      finished = λ _. finished;
    }
