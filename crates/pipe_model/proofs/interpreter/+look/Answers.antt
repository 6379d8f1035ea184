use Rattle.std.proofs.Common.{◌≡◌, ◌<◌, ℕ, List, fold, None, sym, ap, ap₂, ◌∙◌, subst, arith, inl, inr}
use Rattle.std.proofs.lemmas.Bool.{false≢true}
use Rattle.std.proofs.lemmas.Result.{on_ok_weaker}
use Rattle.spec_tables.specs.Rules.{winner}
use Rattle.spec_xlate.specs.Translation.{State, act, look}
use Rattle.pipe_model.specs.Events.{Event, act_events, look_events}
use Rattle.pipe_model.specs.Events.Event.{Looked, Acted}
use Rattle.pipe_model.specs.States.{state_of, visiting, stepped}
use Rattle.pipe_model.specs.Winning.{IsWinner}
use Rattle.pipe_model.proofs.Looking.{sound_at, going_from-test, test_from-going, stepped-act, run-end, run-on, run-off, look-none, look-nothing, look-found}
use Rattle.pipe_model.proofs.RunEvents.{acted-one, run_events-end, run_events-on, run_events-off, look_events-none, look_events-nothing, look_events-found}
use Rattle.pipe_model.proofs.interpreter.+look.Goals as goal
use Rattle.pipe_model.proofs.interpreter.+look.Goals.{look-then-depths-eq0-via-then-depths-eq0, look-then-depths-eq0-via-else-depths-eq0+then-lookups_left-eq0}

-- ---- one action

pub act-returns-in-Resubmit-clause-state : goal.act-returns-in-Resubmit-clause-state
unfolding act
act-returns-in-Resubmit-clause-state g t c = rw c.in-Resubmit.is c.look.ensures.state

pub act-returns-in-Resubmit-clause-noted : goal.act-returns-in-Resubmit-clause-noted
unfolding act_events
act-returns-in-Resubmit-clause-noted g t c = rw c.in-Resubmit.is c.look.ensures.noted

pub act-returns-in-Goto-clause-state : goal.act-returns-in-Goto-clause-state
unfolding act
act-returns-in-Goto-clause-state g t c = rw c.in-Goto.is c.look-in-Goto.ensures.state

pub act-returns-in-Goto-clause-noted : goal.act-returns-in-Goto-clause-noted
unfolding act_events
act-returns-in-Goto-clause-noted g t c = rw c.in-Goto.is c.look-in-Goto.ensures.noted

pub act-returns-in_default : goal.act-returns-in_default
act-returns-in_default g t c =
    let sw = g.L.Lookups.switch c.args.sw.now in
    let s = state_of c.args.state.now in
    let n = g.L.Lookups.noted c.args.notes.now in
    let noted : g.L.Lookups.noted c.note.new.notes ≡ fold g.L.Lookups.after n (act_events (look_events sw c.args.depths) c.args.action s) =
    c.note.ensures
    ∙ ap (λ (key : List ℕ). g.L.Lookups.after n (Acted c.args.action key)) c.current.ensures
    ∙ ap (λ (events : List Event). fold g.L.Lookups.after n events) (acted-one (look_events sw c.args.depths) c.args.action s c.in_default.not-Resubmit c.in_default.not-Goto) in record {
      state =
          on_ok_weaker c.step.result
          (λ e. e ∙ ap (λ (ports : List ℕ). stepped ports c.args.action s) c.ports.ensures ∙ stepped-act sw (look sw c.args.depths) c.args.action s c.in_default.not-Resubmit c.in_default.not-Goto)
          c.step.ensures;
      noted = on_ok_weaker c.step.result (λ e. noted) c.step.ensures;
    }

-- ---- a list of actions

pub run-act-requires : goal.run-act-requires
run-act-requires g t c κs within =
    (omega (arith, c.decreases), (within.0, (within.1, (c.requires.can_run, sound_at c.args.actions.now c.actions.action-index _ c.actions-test.true c.requires.sound))))

pub run-returns-then-not-is_going-clause-state : goal.run-returns-then-not-is_going-clause-state
run-returns-then-not-is_going-clause-state g t c =
    let sw = g.L.Lookups.switch c.args.sw.now in
    run-off sw (look sw c.args.depths) c.args.actions.now c.actions.action-index _ (state_of c.actions.state) (state_of c.act.new.state) c.actions-test.true c.in_ok-act.ensures.state
    (λ e. absurd (false≢true (c.if-not-is_going.ensures ∙ test_from-going (state_of c.act.new.state).mode e)))
    ∙ c.actions.invariant.state

pub run-returns-then-not-is_going-clause-noted : goal.run-returns-then-not-is_going-clause-noted
run-returns-then-not-is_going-clause-noted g t c =
    let sw = g.L.Lookups.switch c.args.sw.now in
    run_events-off g.L.Lookups.after sw (look sw c.args.depths) (look_events sw c.args.depths) c.args.actions.now c.actions.action-index _ (g.L.Lookups.noted c.actions.notes) (g.L.Lookups.noted c.act.new.notes)
    (state_of c.actions.state) (state_of c.act.new.state) c.actions-test.true c.in_ok-act.ensures.state c.in_ok-act.ensures.noted
    (λ e. absurd (false≢true (c.if-not-is_going.ensures ∙ test_from-going (state_of c.act.new.state).mode e)))
    ∙ c.actions.invariant.noted

pub run-actions-preserved : goal.run-actions-preserved
run-actions-preserved g t c =
    let sw = g.L.Lookups.switch c.args.sw.now in
    let going = going_from-test (state_of c.act.new.state).mode (sym c.if-not-is_going.ensures) in record {
      state =
          run-on sw (look sw c.args.depths) c.args.actions.now c.actions.action-index _ (state_of c.actions.state) (state_of c.act.new.state) c.actions-test.true c.in_ok-act.ensures.state going
          ∙ c.actions.invariant.state;
      noted =
          run_events-on g.L.Lookups.after sw (look sw c.args.depths) (look_events sw c.args.depths) c.args.actions.now c.actions.action-index _ (g.L.Lookups.noted c.actions.notes) (g.L.Lookups.noted c.act.new.notes)
          (state_of c.actions.state) (state_of c.act.new.state) c.actions-test.true c.in_ok-act.ensures.state c.in_ok-act.ensures.noted going
          ∙ c.actions.invariant.noted;
    }

pub run-returns-clause-state : goal.run-returns-clause-state
run-returns-clause-state g t c =
    let sw = g.L.Lookups.switch c.args.sw.now in
    sym (run-end sw (look sw c.args.depths) c.args.actions.now c.actions.action-index (state_of c.actions.state) c.actions-test.false) ∙ c.actions.invariant.state

pub run-returns-clause-noted : goal.run-returns-clause-noted
run-returns-clause-noted g t c =
    let sw = g.L.Lookups.switch c.args.sw.now in
    sym (run_events-end g.L.Lookups.after sw (look sw c.args.depths) (look_events sw c.args.depths) c.args.actions.now c.actions.action-index (g.L.Lookups.noted c.actions.notes) (state_of c.actions.state) c.actions-test.false)
    ∙ c.actions.invariant.noted

-- ---- a lookup

pub look-returns-then-depths-eq0-clause-state : goal.look-returns-then-depths-eq0-clause-state
look-returns-then-depths-eq0-clause-state g t c =
    c.stop.ensures
    ∙ sym (look-none (g.L.Lookups.switch c.args.sw.now) c.args.depths c.args.table (state_of c.args.state.now)
    (elim c.then-depths-eq0.branch [ look-then-depths-eq0-via-then-depths-eq0 w ↦ inl w.if-depths-eq0.true | look-then-depths-eq0-via-else-depths-eq0+then-lookups_left-eq0 w ↦ inr (sym w.lookups_left.ensures ∙ w.if-lookups_left-eq0.true) ]))

pub look-returns-then-depths-eq0-clause-noted : goal.look-returns-then-depths-eq0-clause-noted
look-returns-then-depths-eq0-clause-noted g t c =
    look_events-none g.L.Lookups.after (g.L.Lookups.switch c.args.sw.now) c.args.depths c.args.table (g.L.Lookups.noted c.args.notes.now) (state_of c.args.state.now)
    (elim c.then-depths-eq0.branch [ look-then-depths-eq0-via-then-depths-eq0 w ↦ inl w.if-depths-eq0.true | look-then-depths-eq0-via-else-depths-eq0+then-lookups_left-eq0 w ↦ inr (sym w.lookups_left.ensures ∙ w.if-lookups_left-eq0.true) ])

pub look-returns-in_default-clause-state : goal.look-returns-in_default-clause-state
look-returns-in_default-clause-state g t c =
    let sw = g.L.Lookups.switch c.args.sw.now in
    let deep : 0 < c.args.depths = omega (arith, c.if-depths-eq0.false) in
    let left : 0 < c.args.state.now.lookups_left = omega (arith, c.lookups_left.ensures, c.if-lookups_left-eq0.false) in
    let same = c.current.ensures ∙ ap (λ (s : State). s.current) c.take_lookup.ensures in
    c.take_lookup.ensures
    ∙ look-nothing sw c.args.depths c.args.table (state_of c.args.state.now) deep left
    (subst (λ (key : List ℕ). winner (sw.tables c.args.table) key ≡ None) same c.in_default.ensures.winner)

pub look-returns-in_default-clause-noted : goal.look-returns-in_default-clause-noted
look-returns-in_default-clause-noted g t c =
    let sw = g.L.Lookups.switch c.args.sw.now in
    let n = g.L.Lookups.noted c.args.notes.now in
    let deep : 0 < c.args.depths = omega (arith, c.if-depths-eq0.false) in
    let left : 0 < c.args.state.now.lookups_left = omega (arith, c.lookups_left.ensures, c.if-lookups_left-eq0.false) in
    let same = c.current.ensures ∙ ap (λ (s : State). s.current) c.take_lookup.ensures in
    look_events-nothing g.L.Lookups.after sw c.args.depths c.args.table n (g.L.Lookups.noted c.find.new.notes) (state_of c.args.state.now) deep left
    (subst (λ (key : List ℕ). winner (sw.tables c.args.table) key ≡ None) same c.in_default.ensures.winner)
    (c.in_default.ensures.noted ∙ ap₂ (λ (depth : ℕ) (key : List ℕ). g.L.Lookups.after n (Looked depth c.args.table (sw.tables c.args.table) key)) c.depth_above.ensures same)

pub look-returns-in_ok-run-clause-state : goal.look-returns-in_ok-run-clause-state
look-returns-in_ok-run-clause-state g t c =
    let sw = g.L.Lookups.switch c.args.sw.now in
    let deep : 0 < c.args.depths = omega (arith, c.if-depths-eq0.false) in
    let left : 0 < c.args.state.now.lookups_left = omega (arith, c.lookups_left.ensures, c.if-lookups_left-eq0.false) in
    let same = c.current.ensures ∙ ap (λ (s : State). s.current) c.take_lookup.ensures in
    let found = c.in-Some.found in
    let won = subst (λ (key : List ℕ). IsWinner (sw.tables c.args.table) key found.number found.actions.now) same c.in-Some.ensures.winner in
    c.resume.ensures
    ∙ look-found sw c.args.depths c.args.table (state_of c.args.state.now) won.rule found.number found.actions.now (state_of c.visit.new.self) (state_of c.run.new.state)
    deep left won.wins won.its_number won.its_actions (c.in_ok-visit.ensures ∙ ap (visiting found.number) c.take_lookup.ensures) c.in_ok-run.ensures.state

pub look-returns-in_ok-run-clause-noted : goal.look-returns-in_ok-run-clause-noted
look-returns-in_ok-run-clause-noted g t c =
    let sw = g.L.Lookups.switch c.args.sw.now in
    let n = g.L.Lookups.noted c.args.notes.now in
    let deep : 0 < c.args.depths = omega (arith, c.if-depths-eq0.false) in
    let left : 0 < c.args.state.now.lookups_left = omega (arith, c.lookups_left.ensures, c.if-lookups_left-eq0.false) in
    let same = c.current.ensures ∙ ap (λ (s : State). s.current) c.take_lookup.ensures in
    let found = c.in-Some.found in
    let won = subst (λ (key : List ℕ). IsWinner (sw.tables c.args.table) key found.number found.actions.now) same c.in-Some.ensures.winner in
    look_events-found g.L.Lookups.after sw c.args.depths c.args.table n (g.L.Lookups.noted c.find.new.notes) (g.L.Lookups.noted c.run.new.notes) (state_of c.args.state.now) won.rule found.number found.actions.now
    (state_of c.visit.new.self) deep left won.wins won.its_number won.its_actions (c.in_ok-visit.ensures ∙ ap (visiting found.number) c.take_lookup.ensures)
    (c.in-Some.ensures.noted ∙ ap₂ (λ (depth : ℕ) (key : List ℕ). g.L.Lookups.after n (Looked depth c.args.table (sw.tables c.args.table) key)) c.depth_above.ensures same) c.in_ok-run.ensures.noted
