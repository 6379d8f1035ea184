use Rattle.std.proofs.Common.{arith, ◌≡◌, ◌⊎◌, inl, inr, ℕ, ◌+◌, ◌-◌, ◌<◌, ◌≤◌, false, length, sym, ap, ◌∙◌, subst}
use Rattle.std.proofs.lemmas.Bool.{cases_eq, cases_lt}
use Rattle.spec_case.specs.Run.{Run}
use Rattle.spec_board.specs.State.{State, place_at, is_pending}
use Rattle.spec_board.specs.Schedules as schedules
use Rattle.pmd_board.specs.BoardView.{BoardView, state_of}
use Rattle.run_boards.specs.Progress.{OnlyPlans}
use Rattle.run_boards.specs.Scheduled.{under_way}
use Rattle.step_runner.proofs.Progress.{plans_then, none_left, none_pending_from}
use Rattle.run_boards.proofs.Scheduled.{settled_more, sifted_upto}
use Rattle.step_runner.proofs.deciding.settle_pending.Goals as goal

pub places-preserved : goal.places-preserved
places-preserved g c =
    let run : Run = g.C.Case.run in
    let v = c.args.tables.now in
    let inv = c.places.invariant in
    let from = c.places.auto.place in
    let place = c.places.place in
    let first : BoardView = c.args.board.now in
    let a = state_of run first in
    let s = state_of run c.places.board in
    let t = state_of run c.settle_if_pending.new.board in
    let left = c.in_ok-settle_if_pending.ensures.none_pending in
    let still : (k : ℕ) → k < place + 1 → (k ≡ place) ⊎ (k ≡ place → ⊥) → is_pending (place_at k t) ≡ false = λ k upto which. none_left s t place k upto which left.none_pending left.others inv.none_before in record {
      same = record { port = c.in_ok-settle_if_pending.ensures.port.port ∙ inv.same.port; limit = c.in_ok-settle_if_pending.ensures.port.limit ∙ inv.same.limit };
      block = left.block ∙ inv.block;
      next = left.next ∙ inv.next;
      is_sweeping = left.is_sweeping ∙ inv.is_sweeping;
      none_before = λ k upto. still k upto (cases_eq k place);
      others = λ k after. left.others k (λ e. omega (arith, e, after)) ∙ inv.others k (omega (arith, after));
      only_plans = plans_then run first.port a s t inv.only_plans (subst (λ p. OnlyPlans run p s t) inv.same.port left.only_plans);
      scheduled = c.in_ok-settle_if_pending.ensures.scheduled
          ∙ settled_more run v place (under_way run first) (under_way run c.places.board) from inv.scheduled (ap is_pending (inv.others place (omega arith)));
    }

-- at the end no frame is pending
none_pending : (s t : State) (place next : ℕ) → next ≤ place → ((k : ℕ) → k < place → is_pending (place_at k t) ≡ false) → ((k : ℕ) → place ≤ k → place_at k t ≡ place_at k s)
    → ((k : ℕ) → next ≤ k → is_pending (place_at k s) ≡ false) → (k : ℕ) → is_pending (place_at k t) ≡ false
none_pending s t place next end before others waits k = by_cases (cases_lt k place)
  where
    by_cases : (k < place) ⊎ (place ≤ k) → is_pending (place_at k t) ≡ false
    by_cases (inl less) = before k less
    by_cases (inr more) = ap is_pending (others k more) ∙ waits k (omega (arith, end, more))

pub returns-clause-at_rest : goal.returns-clause-at_rest
returns-clause-at_rest g c =
    let run : Run = g.C.Case.run in
    let s = state_of run c.args.board.now in
    let t = state_of run c.places.board in
    let inv = c.places.invariant in
    let places = c.next-next.ensures.lawful.places in
    let next = c.next-next.ensures.same in
    let stop = c.places-test.false in record {
      in_block = inv.block ∙ c.requires.in_block;
      no_sweep = inv.is_sweeping ∙ c.requires.rests;
      none_pending = none_pending_from t (none_pending s t c.places.place s.next (omega (arith, stop, next)) inv.none_before inv.others (λ k after. ap is_pending (places.waiting k after)));
    }

pub returns-clause-scheduled : goal.returns-clause-scheduled
returns-clause-scheduled g c =
    let run : Run = g.C.Case.run in
    let a : BoardView = c.args.board.now in
    let s = state_of run a in
    let inv = c.places.invariant in
    let lawful = c.next-next.ensures.lawful in
    let next = c.next-next.ensures.same in
    let stop = c.places-test.false in
    let from = c.places.auto.place in
    let upto = c.places.auto.place-end in
    let one = lawful.places.from_one in
    let within = lawful.next_within in
    let all = lawful.places.all_places in
    inv.scheduled
    ∙ sym (sifted_upto (λ (b : schedules.Board) (k : ℕ). schedules.settle_at run c.args.tables.now k b) (λ k. is_pending (place_at k s)) (under_way run a) 1 (c.places.place - 1) (length s.places)
    (omega (arith, stop, from, upto, one, within, all, next))
    (λ k after. ap is_pending (lawful.places.waiting k (omega (arith, after, stop, from, next)))))
