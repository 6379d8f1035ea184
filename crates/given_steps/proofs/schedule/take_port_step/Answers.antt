use Rattle.std.proofs.Common.{◌≡◌, ◌==◌, ℕ, List, Some, Bool, map, is_some, position, nat_eq, sym, ap, ◌∙◌, subst}
use Rattle.std.specs.List.{list_any, IsDistinct}
use Rattle.std.proofs.Math.Seq.{map-set_same}
use Rattle.spec_case.specs.Run.{Run}
use Rattle.spec_board.specs.Schedules.{Board}
use Rattle.spec_board.specs.GivenSteps.{given_step, is_met_at}
use Rattle.given_steps.specs.ScheduledViews.{ScheduledView, scheduled}
use Rattle.given_steps.specs.ByNumber.{by_number}
use Rattle.given_steps.proofs.Stepped.{found, none_there, taken_at, none_taken}
use Rattle.given_steps.proofs.schedule.take_port_step.Goals as goal

-- the board at the place of the port is the one that took the step
pub returns-in_ok-met-in-Some-clause-met : goal.returns-in_ok-met-in-Some-clause-met
returns-in_ok-met-in-Some-clause-met g c =
    let run : Run = g.C.Case.run in
    let S : ScheduledView → Board = scheduled run in
    let items : List ScheduledView = c.args.boards.now.items in
    let b : ScheduledView = c.index_mut.result.now in
    let is_port : ℕ → Bool = λ p. p == c.args.port in
    let at : position is_port run.ports ≡ Some c.in-Some.place = sym (c.find.ensures.place ∙ ap (position is_port) c.ports-2.ensures) ∙ c.in-Some.is in
    c.in_ok-met-in-Some.ensures.met
    ∙ ap (λ (x : ScheduledView). (given_step run c.args.tables.now c.args.step.now (S x)).0) c.index_mut.ensures.value
    ∙ sym (ap (is_met_at run c.args.tables.now c.args.step.now) (found S c.args.port run.ports items c.in-Some.place b c.requires.ports at))

pub returns-in_ok-met-in-Some-clause-taken : goal.returns-in_ok-met-in-Some-clause-taken
returns-in_ok-met-in-Some-clause-taken g c =
    let run : Run = g.C.Case.run in
    let S : ScheduledView → Board = scheduled run in
    let items : List ScheduledView = c.args.boards.now.items in
    let b : ScheduledView = c.index_mut.result.now in
    let is_port : ℕ → Bool = λ p. p == c.args.port in
    let at : position is_port run.ports ≡ Some c.in-Some.place = sym (c.find.ensures.place ∙ ap (position is_port) c.ports-2.ensures) ∙ c.in-Some.is in
    let distinct = subst (IsDistinct nat_eq) c.ports.ensures c.len.ensures.distinct in
    taken_at S run c.args.tables.now c.args.step.now c.args.port run.ports items c.in-Some.place c.take_step.new.board b c.requires.ports distinct at
    (c.in_ok-met-in-Some.ensures.taken ∙ ap (λ (x : ScheduledView). by_number (given_step run c.args.tables.now c.args.step.now (S x)).1) c.index_mut.ensures.value)

pub returns-in_ok-met-in-Some-clause-ports : goal.returns-in_ok-met-in-Some-clause-ports
returns-in_ok-met-in-Some-clause-ports g c =
    let Port : ScheduledView → ℕ = λ (x : ScheduledView). x.board.port in
    map-set_same Port c.args.boards.now.items c.in-Some.place c.take_step.new.board c.index_mut.result.now (c.in_ok-met-in-Some.ensures.port ∙ ap Port c.index_mut.ensures.value)
    ∙ c.requires.ports

pub returns-in-None-clause-met : goal.returns-in-None-clause-met
returns-in-None-clause-met g c =
    let run : Run = g.C.Case.run in
    let items : List ScheduledView = c.args.boards.now.items in
    let is_port : ℕ → Bool = λ p. p == c.args.port in
    let none = ap (list_any is_port) (c.requires.ports ∙ sym c.ports-2.ensures) ∙ sym c.find.ensures.found ∙ ap is_some c.in-None.is in
    sym (ap (is_met_at run c.args.tables.now c.args.step.now) (none_there (scheduled run) c.args.port items none))

pub returns-in-None-clause-taken : goal.returns-in-None-clause-taken
returns-in-None-clause-taken g c =
    let run : Run = g.C.Case.run in
    let items : List ScheduledView = c.args.boards.now.items in
    let is_port : ℕ → Bool = λ p. p == c.args.port in
    let none = ap (list_any is_port) (c.requires.ports ∙ sym c.ports-2.ensures) ∙ sym c.find.ensures.found ∙ ap is_some c.in-None.is in
    ap (map by_number) (none_taken (scheduled run) run c.args.tables.now c.args.step.now c.args.port items none)
