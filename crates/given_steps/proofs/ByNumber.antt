-- No step depends on the order in which translations are kept.
use Rattle.std.proofs.Common.{◌≡◌, ℕ, ◌+◌, ◌==◌, if◌then◌else◌, Bool, true, false, List, [], ◌∷◌, map, Option, Some, None, refl, sym, ap, ◌∙◌, subst}
use Rattle.std.specs.Prelude.{nat_lt}
use Rattle.std.specs.Option.{is_none}
use Rattle.std.proofs.lemmas.Simd.{map-map}
use Rattle.spec_case.specs.declared.run_step.RunStep.{RunStep}
use Rattle.spec_case.specs.declared.run_step.RunStep.TheVariants as given
use Rattle.spec_case.specs.Run.{Run}
use Rattle.spec_case.specs.Blocks.{last_block, hi}
use Rattle.spec_board.specs.Steps.{Step}
use Rattle.spec_board.specs.State.{Entry, State, place_at, is_pending}
use Rattle.spec_board.specs.Results.{entry_of}
use Rattle.spec_board.specs.Effects.{is_among}
use Rattle.spec_board.specs.Refusals.{open_fault, look_fault, settle_fault, begin_fault, put_fault, end_fault}
use Rattle.spec_board.specs.Schedules.{Kept, Board, Schedule, settle_at, put_entry, put_at, least_block}
use Rattle.spec_board.specs.GivenSteps.{Met, met_if, kept_version, given_up, keeping, settle_kept, put_kept, given_step, counted, is_met_at, with_step_at}
use Rattle.given_steps.specs.Translations.{versions}
use Rattle.given_steps.specs.ByNumber.{NumberedBoard, by_number, NumberedSchedule, all_by_number}
use Rattle.given_steps.specs.Running.{board_of, stepped_at, without_kept}
use Rattle.given_steps.proofs.GivenUp.{least_kept}
use Rattle.given_steps.proofs.KeptLists.{given_up_alike, keeping_alike}

-- ---- one step of one board

-- a step was met at both or at neither, and the boards are alike after it
abbrev pub Alike : Met → Met → Type 0
Alike x y = (x.0 ≡ y.0) × (by_number x.1 ≡ by_number y.1)

abbrev board : ℕ → List Step → State → List Kept → List Kept → Board
board port steps state snaps checks = record { port = port; steps = steps; state = state; snaps = snaps; checks = checks }

module _ (p : ℕ) (q : List Step) (r : State) where
  boards_alike : (s t c d : List Kept) → versions s ≡ versions t → versions c ≡ versions d → by_number (board p q r s c) ≡ by_number (board p q r t d)
  boards_alike s t c d snaps checks =
      let with_kept : (ℕ → Option ℕ) → (ℕ → Option ℕ) → NumberedBoard = λ f g. record { port = p; steps = q; state = r; snaps = f; checks = g } in
      ap (λ f. with_kept f (versions c)) snaps ∙ ap (with_kept (versions t)) checks

met_alike : (t : Bool) (x y v w : Board) → by_number x ≡ by_number y → by_number v ≡ by_number w → Alike (met_if t x v) (met_if t y w)
met_alike true x y v w done other = (refl, done)
met_alike false x y v w done other = (refl, other)

-- what is done by the kept version of a number is done alike by lists that keep the same versions
by_version : (step : Option ℕ → Board → Met) (number : ℕ) (k l : List Kept) → versions k ≡ versions l → (x y : Board)
    → ((o : Option ℕ) → Alike (step o x) (step o y)) → Alike (step (kept_version number k) x) (step (kept_version number l) y)
by_version step number k l same x y each =
    subst (λ (o : Option ℕ). Alike (step (kept_version number k) x) (step o y)) (ap (λ (f : ℕ → Option ℕ). f number) same) (each (kept_version number k))

module _ (run : Run) (newest port : ℕ) (steps : List Step) (state : State) where
  abbrev at : List Kept → List Kept → Board
  at s c = board port steps state s c

  module _ (s t c d : List Kept) (snaps : versions s ≡ versions t) (checks : versions c ≡ versions d) where
    settle_alike : (place : ℕ) (o : Option ℕ) → Alike (settle_kept run place o (at s c)) (settle_kept run place o (at t d))
    settle_alike place None = (refl, boards_alike port steps state s t c d snaps checks)
    settle_alike place (Some v) =
        met_alike (is_none (settle_fault run state place v)) (settle_at run v place (at s c)) (settle_at run v place (at t d)) (at s c) (at t d)
        (boards_alike port _ _ s t c d snaps checks) (boards_alike port steps state s t c d snaps checks)

    entry_alike : (v : ℕ) (o : Option Entry) → by_number (put_entry run v o (at s c)) ≡ by_number (put_entry run v o (at t d))
    entry_alike v None = boards_alike port steps state s t c d snaps checks
    entry_alike v (Some e) = boards_alike port _ _ s t c d snaps checks

    put_alike : (number : ℕ) (o : Option ℕ) → Alike (put_kept run number o (at s c)) (put_kept run number o (at t d))
    put_alike number None = (refl, boards_alike port steps state s t c d snaps checks)
    put_alike number (Some v) =
        met_alike (is_none (put_fault run state number v)) (put_at run v number (at s c)) (put_at run v number (at t d)) (at s c) (at t d)
        (entry_alike v (entry_of number state.entries)) (boards_alike port steps state s t c d snaps checks)

  module _ (s t c d : List Kept) (snaps : versions s ≡ versions t) (checks : versions c ≡ versions d) where
    line_alike : (step : RunStep) → Alike (given_step run newest step (at s c)) (given_step run newest step (at t d))
    line_alike given.Edit = (refl, boards_alike port steps state s t c d snaps checks)
    line_alike (given.Rx p) =
        met_alike (is_none (look_fault run port state state.next)) _ _ (at s c) (at t d)
        (boards_alike port _ _ s t c d snaps checks) (boards_alike port steps state s t c d snaps checks)
    line_alike (given.Snap p place) =
        met_alike (is_pending (place_at place state)) (at (keeping place newest s) c) (at (keeping place newest t) d) (at s c) (at t d)
        (boards_alike port steps state (keeping place newest s) (keeping place newest t) c d (keeping_alike place newest s t snaps) checks)
        (boards_alike port steps state s t c d snaps checks)
    line_alike (given.Settle p place) =
        let u = given_up place s in
        let w = given_up place t in
        by_version (settle_kept run place) place s t snaps (at u c) (at w d) (settle_alike u w c d (given_up_alike place s t snaps) checks place)
    line_alike (given.Sweep p) =
        met_alike (is_none (begin_fault run state newest)) _ _ (at s c) (at t d)
        (boards_alike port _ _ s t c d snaps checks) (boards_alike port steps state s t c d snaps checks)
    line_alike (given.Check p number) =
        met_alike (is_among state.listed number) (at s (keeping number newest c)) (at t (keeping number newest d)) (at s c) (at t d)
        (boards_alike port steps state s t (keeping number newest c) (keeping number newest d) snaps (keeping_alike number newest c d checks))
        (boards_alike port steps state s t c d snaps checks)
    line_alike (given.Put p number) =
        let u = given_up number c in
        let w = given_up number d in
        by_version (put_kept run number) number c d checks (at s u) (at t w) (put_alike s t u w snaps (given_up_alike number c d checks) number)
    line_alike (given.Swept p) =
        met_alike (is_none (end_fault state)) _ _ (at s c) (at t d)
        (boards_alike port _ _ s t c d snaps checks) (boards_alike port steps state s t c d snaps checks)
    line_alike (given.Open p) =
        met_alike (is_none (open_fault run port state (state.block + 1))) _ _ (at s c) (at t d)
        (boards_alike port _ _ s t c d snaps checks) (boards_alike port steps state s t c d snaps checks)

pub step_alike : (run : Run) (newest : ℕ) (step : RunStep) (a b : Board) → by_number a ≡ by_number b → Alike (given_step run newest step a) (given_step run newest step b)
step_alike run newest step a b same =
    let is : board a.port a.steps a.state b.snaps b.checks ≡ b =
    ap (λ x. board x a.steps a.state b.snaps b.checks) (ap (λ (x : NumberedBoard). x.port) same)
    ∙ ap (λ x. board b.port x a.state b.snaps b.checks) (ap (λ (x : NumberedBoard). x.steps) same)
    ∙ ap (λ x. board b.port b.steps x b.snaps b.checks) (ap (λ (x : NumberedBoard). x.state) same) in
    subst (λ (x : Board). Alike (given_step run newest step a) (given_step run newest step x)) is
    (line_alike run newest a.port a.steps a.state a.snaps b.snaps a.checks b.checks
    (ap (λ (x : NumberedBoard). x.snaps) same) (ap (λ (x : NumberedBoard). x.checks) same) step)

-- ---- the boards of a run

abbrev head_or : NumberedBoard → List NumberedBoard → NumberedBoard
head_or x [] = x
head_or x (y ∷ ys) = y

abbrev tail_of : List NumberedBoard → List NumberedBoard
tail_of [] = []
tail_of (y ∷ ys) = ys

module _ (run : Run) (newest : ℕ) (step : RunStep) (port : ℕ) where
  one_alike : (a b : Board) → by_number a ≡ by_number b → by_number (stepped_at run newest step port a) ≡ by_number (stepped_at run newest step port b)
  one_alike a b same =
      ap (λ x. by_number (if x == port then (given_step run newest step a).1 else a)) (ap (λ (x : NumberedBoard). x.port) same) ∙ by_test (b.port == port)
    where
      by_test : (t : Bool) → by_number (if t then (given_step run newest step a).1 else a) ≡ by_number (if t then (given_step run newest step b).1 else b)
      by_test true = (step_alike run newest step a b same).1
      by_test false = same

  all_alike : (xs ys : List Board) → map by_number xs ≡ map by_number ys
      → map by_number (map (stepped_at run newest step port) xs) ≡ map by_number (map (stepped_at run newest step port) ys)
  all_alike [] [] same = refl
  all_alike [] (y ∷ ys) same = absurd (cc same)
  all_alike (x ∷ xs) [] same = absurd (cc same)
  all_alike (x ∷ xs) (y ∷ ys) same =
      ap (λ b. b ∷ map by_number (map (stepped_at run newest step port) xs)) (one_alike x y (ap (head_or (by_number x)) same))
      ∙ ap (λ bs. by_number (stepped_at run newest step port y) ∷ bs) (all_alike xs ys (ap tail_of same))

  met_alike_at : (xs ys : List Board) → map by_number xs ≡ map by_number ys → is_met_at run newest step (board_of port xs) ≡ is_met_at run newest step (board_of port ys)
  met_alike_at [] [] same = refl
  met_alike_at [] (y ∷ ys) same = absurd (cc same)
  met_alike_at (x ∷ xs) [] same = absurd (cc same)
  met_alike_at (x ∷ xs) (y ∷ ys) same =
      ap (λ p. is_met_at run newest step (if p == port then Some x else board_of port xs)) (ap (λ (b : NumberedBoard). b.port) first)
      ∙ by_test (y.port == port) (met_alike_at xs ys (ap tail_of same))
    where
      first : by_number x ≡ by_number y
      first = ap (head_or (by_number x)) same

      by_test : (t : Bool) → is_met_at run newest step (board_of port xs) ≡ is_met_at run newest step (board_of port ys)
          → is_met_at run newest step (if t then Some x else board_of port xs) ≡ is_met_at run newest step (if t then Some y else board_of port ys)
      by_test true others = (step_alike run newest step x y first).0
      by_test false others = others

-- ---- schedules

-- a board whose kept translations are given up, by what is seen of it
abbrev bare : NumberedBoard → Board
bare b = board b.port b.steps b.state [] []

pub without_alike : (xs ys : List Board) → map by_number xs ≡ map by_number ys → map without_kept xs ≡ map without_kept ys
without_alike xs ys same = sym (map-map bare by_number xs) ∙ ap (map bare) same ∙ map-map bare by_number ys

pub least_alike : (most : ℕ) (xs ys : List Board) → map by_number xs ≡ map by_number ys → least_block most xs ≡ least_block most ys
least_alike most xs ys same = sym (least_kept most xs) ∙ ap (least_block most) (without_alike xs ys same) ∙ least_kept most ys

abbrev schedule : ℕ → ℕ → List Board → Schedule
schedule newest unmet boards = record { newest = newest; boards = boards; unmet = unmet }

abbrev numbered : ℕ → ℕ → List NumberedBoard → NumberedSchedule
numbered newest unmet boards = record { newest = newest; boards = boards; unmet = unmet }

module _ (run : Run) (step : RunStep) (newest unmet : ℕ) (xs ys : List Board) (same : map by_number xs ≡ map by_number ys) where
  with_step_alike : (port : Option ℕ) → all_by_number (with_step_at run step port (schedule newest unmet xs)) ≡ all_by_number (with_step_at run step port (schedule newest unmet ys))
  with_step_alike None =
      ap (λ n. all_by_number (if nat_lt newest (hi run n) then schedule (newest + 1) unmet xs else schedule newest (unmet + 1) xs)) (least_alike (last_block run) xs ys same)
      ∙ by_test (nat_lt newest (hi run (least_block (last_block run) ys)))
    where
      by_test : (t : Bool) → all_by_number (if t then schedule (newest + 1) unmet xs else schedule newest (unmet + 1) xs)
          ≡ all_by_number (if t then schedule (newest + 1) unmet ys else schedule newest (unmet + 1) ys)
      by_test true = ap (numbered (newest + 1) unmet) same
      by_test false = ap (numbered newest (unmet + 1)) same
  with_step_alike (Some port) =
      ap (λ m. numbered newest (counted m unmet) (map by_number (map (stepped_at run newest step port) xs))) (met_alike_at run newest step port xs ys same)
      ∙ ap (numbered newest (counted (is_met_at run newest step (board_of port ys)) unmet)) (all_alike run newest step port xs ys same)

pub schedules_alike : (run : Run) (step : RunStep) (port : Option ℕ) (a b : Schedule) → all_by_number a ≡ all_by_number b
    → all_by_number (with_step_at run step port a) ≡ all_by_number (with_step_at run step port b)
schedules_alike run step port a b same =
    with_step_alike run step a.newest a.unmet a.boards b.boards (ap (λ (s : NumberedSchedule). s.boards) same) port
    ∙ ap (λ n. all_by_number (with_step_at run step port (schedule n a.unmet b.boards))) (ap (λ (s : NumberedSchedule). s.newest) same)
    ∙ ap (λ n. all_by_number (with_step_at run step port (schedule b.newest n b.boards))) (ap (λ (s : NumberedSchedule). s.unmet) same)
