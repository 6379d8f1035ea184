use Rattle.std.proofs.Common.{◌≡◌, arith, ℕ, ◌∷◌, List, length, inl, refl, sym, ap, ◌∙◌, subst}
use Rattle.spec_case.specs.Run.{Run}
use Rattle.spec_case.specs.Blocks.{hi}
use Rattle.spec_board.specs.Steps as steps
use Rattle.spec_board.specs.State.{State}
use Rattle.spec_board.specs.Schedules as schedules
use Rattle.spec_board.specs.Effects.{effect}
use Rattle.table_laws.proofs.MemberLaws.{Among}
use Rattle.board_laws.proofs.NumberLaws.{Rising}
use Rattle.pmd_board.specs.BoardView.{BoardView, state_of}
use Rattle.run_boards.specs.Progress.{OnlyPuts}
use Rattle.run_boards.specs.Scheduled.{under_way}
use Rattle.step_runner.proofs.Progress.{listed_rising, first_above, none_above, may_put, puts_none, put_keeps, put_leaves}
use Rattle.run_boards.proofs.Scheduled.{state_after, put_step, first_put, all_put}
use Rattle.step_runner.proofs.sweeping.put_listed.Goals as goal

pub entries-init : goal.entries-init
entries-init g c = record {
  only_puts = puts_none (state_of g.C.Case.run c.args.board.now);
  same = record { port = refl; limit = refl };
  above = listed_rising g.C.Case.run c.args.board.now c.journal.ensures.legal;
  left = refl;
}

pub put-lists-requires-clause-may : goal.put-lists-requires-clause-may
put-lists-requires-clause-may g c =
    let run : Run = g.C.Case.run in
    let b : BoardView = c.entries.board in
    let s : State = state_of run b in
    let n = c.in-Some.number in
    let first = first_above c.entries.after n s.listed c.entries.invariant.above c.in-Some.ensures.some.0 in
    let kept = c.entries.invariant.only_puts in
    let v : c.in_ok-made.made.version ≡ hi run (state_of run c.args.board.now).block = c.in_ok-made.ensures.version ∙ c.requires in
    let versions = c.journal.ensures.lawful.versions in
    let above = versions.floor_newest in
    let below = versions.within_block in
    let floor = kept.floor in
    let block = ap (hi run) kept.as_far.block in
    may_put run s n c.in_ok-made.made.version (subst (Among n) (sym first.1) (inl refl)) (omega (arith, above, below, floor, v)) (omega (arith, v, block))

pub entries-smaller : goal.entries-smaller
entries-smaller g c =
    let run : Run = g.C.Case.run in
    let b : BoardView = c.entries.board in
    let s : State = state_of run b in
    let n = c.in-Some.number in
    let v = c.in_ok-made.made.version in
    let first = first_above c.entries.after n s.listed c.entries.invariant.above c.in-Some.ensures.some.0 in
    let rises : Rising (n ∷ first.0) = subst Rising first.1 c.entries.invariant.above.1 in
    let moved = state_after run b c.put-lists.new.board (steps.Put n v c.put-lists.ensures.result) c.put-lists.ensures.appends in
    let left : (state_of run c.put-lists.new.board).listed ≡ first.0 = ap (λ (t : State). t.listed) moved ∙ put_leaves run b.port s n v c.put-lists.ensures.result first.0 first.1 rises in
    let count = ap length left in
    let before = ap length first.1 in omega (arith, count, before)

pub entries-preserved : goal.entries-preserved
entries-preserved g c =
    let run : Run = g.C.Case.run in
    let port = c.args.board.now.port in
    let b : BoardView = c.entries.board in
    let s : State = state_of run b in
    let new : BoardView = c.put-lists.new.board in
    let n = c.in-Some.number in
    let v = c.in_ok-made.made.version in
    let step : steps.Step = steps.Put n v c.put-lists.ensures.result in
    let same = c.entries.invariant.same in
    let first = first_above c.entries.after n s.listed c.entries.invariant.above c.in-Some.ensures.some.0 in
    let rises : Rising (n ∷ first.0) = subst Rising first.1 c.entries.invariant.above.1 in
    let moved : state_of run new ≡ effect run port s step = state_after run b new step c.put-lists.ensures.appends ∙ ap (λ p. effect run p s step) same.port in
    let left : (state_of run new).listed ≡ first.0 = ap (λ (t : State). t.listed) moved ∙ put_leaves run port s n v c.put-lists.ensures.result first.0 first.1 rises in
    let made : under_way run new ≡ schedules.put_at run c.args.tables.now n (under_way run b) =
    put_step run b new n v c.put-lists.ensures ∙ ap (λ w. schedules.put_at run w n (under_way run b)) c.in_ok-made.ensures.version in record {
      only_puts = subst (λ (t : State). OnlyPuts (state_of run c.args.board.now) t) (sym moved) (put_keeps run port (state_of run c.args.board.now) s n v c.put-lists.ensures.result c.entries.invariant.only_puts);
      same = record {
        port = ap (λ (x : BoardView). x.port) c.put-lists.ensures.appends.appended ∙ same.port;
        limit = ap (λ (x : BoardView). x.flow_limit) c.put-lists.ensures.appends.appended ∙ same.limit;
      };
      above = subst (λ (ns : List ℕ). Rising (n ∷ ns)) (sym left) rises;
      left = first_put run c.args.tables.now n first.0 (under_way run b) (under_way run new) first.1 left made ∙ c.entries.invariant.left;
    }

pub returns-clause-none_left : goal.returns-clause-none_left
returns-clause-none_left g c =
    none_above c.entries.after (state_of g.C.Case.run c.entries.board).listed c.entries.invariant.above
    (c.in_default.ensures.none)

pub returns-clause-put : goal.returns-clause-put
returns-clause-put g c =
    let run : Run = g.C.Case.run in
    let none = none_above c.entries.after (state_of run c.entries.board).listed c.entries.invariant.above (c.in_default.ensures.none) in
    sym (all_put run c.args.tables.now (under_way run c.entries.board) none) ∙ c.entries.invariant.left
