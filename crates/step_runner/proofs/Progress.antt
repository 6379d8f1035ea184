-- How the steps of a board carry it on.
use Rattle.std.proofs.Common.{◌≡◌, ◌⊎◌, inl, inr, ℕ, suc, ◌+◌, ◌≤◌, ◌<◌, ◌==◌, true, false, Bool, not, nat_lt, if◌then◌else◌, List, [], ◌∷◌, length, filter, slice_index_or, count_by, Some, None, refl, sym, ap, ◌∙◌, subst, arith}
use Rattle.std.specs.List.{list_all, find}
use Rattle.std.proofs.lemmas.Bool.{cases_eq, and_from, eq-eqb, ne_eqb, le-ltb, le-leb, lt-leb, lt-ltb, cond-true, false_from_ne_true}
use Rattle.std.proofs.lemmas.List.Sums.{sum_by-cons}
use Rattle.spec_case.specs.Run.{Run, frames_of}
use Rattle.spec_case.specs.Blocks.{hi, last_block, last_place, block_of}
use Rattle.spec_board.specs.declared.looked.Looked.TheVariants.{Exact, Mega, Miss}
use Rattle.spec_board.specs.declared.put_done.PutDone.{PutDone}
use Rattle.spec_board.specs.declared.put_done.PutDone.TheVariants.{Idle, Removed, Kept, Replaced}
use Rattle.spec_board.specs.Steps as steps
use Rattle.spec_board.specs.State.{State, Place, Waiting, Pending, Decided, place_at, is_pending, is_decided, pending_count}
use Rattle.spec_board.specs.Results.{key_at, translated, entry_of}
use Rattle.spec_board.specs.Refusals.{open_fault, look_fault, settle_fault, begin_fault, put_fault, end_fault}
use Rattle.spec_board.specs.Effects.{effect, decided_as, is_among}
use Rattle.spec_board.specs.Journals.{IsFinished, IsLegal, after}
use Rattle.table_laws.proofs.MemberLaws.{Among}
use Rattle.board_laws.specs.Places.{ArePlaces}
use Rattle.board_laws.proofs.Refusals.{lo_next}
use Rattle.board_laws.proofs.NumberLaws.{Rising, among_number, Among-is_among}
use Rattle.board_laws.proofs.PlaceLaws.{at, at_there, at_written, at_others, pending_from, pending_upto, waiting_written, pending_written, decided_written, none_pending}
use Rattle.board_laws.proofs.Kept.{kept_after}
use Rattle.pmd_board.specs.BoardView.{BoardView, state_of}
use Rattle.run_boards.specs.Progress.{planned, OnlyPlans, OnlyPuts, SettlesAsPlanned, IsSwept}
use Rattle.step_runner.proofs.LookedUp.{IsLookedUp}

-- ---- what a sweep lists

keeps_all : (p : ℕ → Bool) (ns : List ℕ) → ((n : ℕ) → Among n ns → p n ≡ true) → filter p ns ≡ ns
keeps_all p [] each = refl
keeps_all p (n ∷ ns) each =
    cond-true (p n) (n ∷ filter p ns) (filter p ns) (each n (inl refl))
    ∙ ap (λ xs. n ∷ xs) (keeps_all p ns (λ m a. each m (inr a)))

differs : (n : ℕ) (ns : List ℕ) → Rising (n ∷ ns) → (m : ℕ) → Among m ns → m == n ≡ false
differs n ns rises m a = let above = rises.0 m a in ne_eqb m n (λ e. omega (arith, e, above))

-- without the first one the others are left
without_first : (n : ℕ) (ns : List ℕ) → Rising (n ∷ ns) → filter (λ m. not (m == n)) (n ∷ ns) ≡ ns
without_first n ns rises =
    rw (eq-eqb n n refl) (keeps_all (λ m. not (m == n)) ns (λ m a. ap not (differs n ns rises m a)))

-- the least number above one that is below all is the first
pub first_above : (after n : ℕ) (ns : List ℕ) → Rising (after ∷ ns) → find (λ m. nat_lt after m) ns ≡ Some n → (others : List ℕ) × (ns ≡ n ∷ others)
first_above after n [] rises found = absurd (cc found)
first_above after n (m ∷ ns) rises found =
    let first : Some m ≡ Some n = sym (cond-true (nat_lt after m) (Some m) (find (λ k. nat_lt after k) ns) (lt-ltb after m (rises.0 m (inl refl)))) ∙ found in
    (ns, ap (λ k. k ∷ ns) (cc first))

pub none_above : (after : ℕ) (ns : List ℕ) → Rising (after ∷ ns) → find (λ m. nat_lt after m) ns ≡ None → ns ≡ []
none_above after [] rises found = refl
none_above after (m ∷ ns) rises found =
    let first : Some m ≡ None = sym (cond-true (nat_lt after m) (Some m) (find (λ k. nat_lt after k) ns) (lt-ltb after m (rises.0 m (inl refl)))) ∙ found in
    absurd (cc first)

-- entries are numbered from 1, so all that are listed are above 0
pub listed_rising : (run : Run) (b : BoardView) → IsLegal run b.port b.flow_limit b.journal → Rising (0 ∷ (state_of run b).listed)
listed_rising run b legal =
    let k = kept_after run b.port b.flow_limit b.journal legal in (
      λ n a.
          let r = among_number n (state_of run b).entries (k.listed.live n a) in
          let from_one = k.apart.from_one r.0 r.1 in omega (arith, from_one, r.2),
      k.listed.rising,
    )

unlisted : (n : ℕ) (ns : List ℕ) → Rising (n ∷ ns) → filter (λ m. not (is_among (n ∷ []) m)) ns ≡ ns
unlisted n ns rises = keeps_all (λ m. not (is_among (n ∷ []) m)) ns (λ m a. let l = rises.0 m a in rw (ne_eqb n m (λ e. omega (arith, e, l))) refl)

pub planned-settled : (run : Run) (port place : ℕ) → is_pending (planned run port place) ≡ false
unfolding planned
planned-settled run port place = refl

-- ---- sweeps

pub may_begin : (run : Run) (s : State) (v : ℕ) → s.is_sweeping ≡ false → v ≤ hi run s.block → begin_fault run s v ≡ None
may_begin run s v rests below = rw (rests, le-ltb (hi run s.block) v below) refl

pub may_put : (run : Run) (s : State) (n v : ℕ) → Among n s.listed → s.floor ≤ v → v ≤ hi run s.block → put_fault run s n v ≡ None
may_put run s n v there above below = rw (Among-is_among s.listed n there, le-ltb v s.floor above, le-ltb (hi run s.block) v below) refl

pub may_end : (s : State) → s.is_sweeping ≡ true → s.listed ≡ [] → end_fault s ≡ None
may_end s sweeps none = rw (sweeps, none) refl

pub puts_none : (s : State) → OnlyPuts s s
puts_none s = record { as_far = record { block = refl; next = refl; places = refl }; floor = refl; done = refl; is_sweeping = refl }

module _ (run : Run) (port : ℕ) where
  -- a put keeps all but the entries and the list
  pub put_keeps : (a s : State) (n v : ℕ) (r : PutDone) → OnlyPuts a s → OnlyPuts a (effect run port s (steps.Put n v r))
  put_keeps a s n v Idle k = record { as_far = record { block = k.as_far.block; next = k.as_far.next; places = k.as_far.places }; floor = k.floor; done = k.done; is_sweeping = k.is_sweeping }
  put_keeps a s n v Removed k = record { as_far = record { block = k.as_far.block; next = k.as_far.next; places = k.as_far.places }; floor = k.floor; done = k.done; is_sweeping = k.is_sweeping }
  put_keeps a s n v Kept k = record { as_far = record { block = k.as_far.block; next = k.as_far.next; places = k.as_far.places }; floor = k.floor; done = k.done; is_sweeping = k.is_sweeping }
  put_keeps a s n v Replaced k = record { as_far = record { block = k.as_far.block; next = k.as_far.next; places = k.as_far.places }; floor = k.floor; done = k.done; is_sweeping = k.is_sweeping }

  -- and the others are left to put
  pub put_leaves : (s : State) (n v : ℕ) (r : PutDone) (others : List ℕ) → s.listed ≡ n ∷ others → Rising (n ∷ others) → (effect run port s (steps.Put n v r)).listed ≡ others
  put_leaves s n v Idle others is rises = rw (is, without_first n others rises) (unlisted n others rises)
  put_leaves s n v Removed others is rises = rw (is, without_first n others rises) (unlisted n others rises)
  put_leaves s n v Kept others is rises = ap (filter (λ m. not (m == n))) is ∙ without_first n others rises
  put_leaves s n v Replaced others is rises = ap (filter (λ m. not (m == n))) is ∙ without_first n others rises

  -- ---- frames that stay, and frames that are decided

  pub plans_same : (s t : State) → t.places ≡ s.places → OnlyPlans run port s t
  plans_same s t same = λ place. inl (ap (at place) same)

  pub plans_then : (s t u : State) → OnlyPlans run port s t → OnlyPlans run port t u → OnlyPlans run port s u
  plans_then s t u first second = λ place. by_cases place (first place) (second place)
    where
      by_cases : (place : ℕ) → (place_at place t ≡ place_at place s) ⊎ (place_at place t ≡ planned run port place)
          → (place_at place u ≡ place_at place t) ⊎ (place_at place u ≡ planned run port place)
          → (place_at place u ≡ place_at place s) ⊎ (place_at place u ≡ planned run port place)
      by_cases place a (inr p) = inr p
      by_cases place (inl e) (inl f) = inl (f ∙ e)
      by_cases place (inr p) (inl f) = inr (f ∙ p)

  -- one place is decided as is planned
  pub plans_one : (s t : State) (place : ℕ) → ((other : ℕ) → (other ≡ place → ⊥) → place_at other t ≡ place_at other s) → place_at place t ≡ planned run port place → OnlyPlans run port s t
  plans_one s t place others decided = λ other. by_cases other (cases_eq other place)
    where
      by_cases : (other : ℕ) → (other ≡ place) ⊎ (other ≡ place → ⊥) → (place_at other t ≡ place_at other s) ⊎ (place_at other t ≡ planned run port other)
      by_cases other (inl e) = inr (ap (λ i. place_at i t) e ∙ decided ∙ ap (planned run port) (sym e))
      by_cases other (inr n) = inl (others other n)

  -- ---- a pending frame

  pub may_settle : (s : State) (place v : ℕ) → is_pending (place_at place s) ≡ true → s.floor ≤ v → v ≤ hi run s.block → settle_fault run s place v ≡ None
  may_settle s place v pends above below = rw (pends, le-ltb v s.floor above, le-ltb (hi run s.block) v below) refl

  module _ (s : State) (place v : ℕ) (pends : is_pending (place_at place s) ≡ true) (as_planned : Decided v (translated run v (key_at run port place)).actions ≡ planned run port place) where
    full_settles : SettlesAsPlanned run port place s (effect run port s (steps.Settle place v steps.Full))
    full_settles =
        let p = Decided v (translated run v (key_at run port place)).actions in
        let first = pending_from s.places place pends in record {
          block = refl;
          next = refl;
          done = refl;
          is_sweeping = refl;
          pending = decided_written s.places place v (translated run v (key_at run port place)).actions pends;
          others = λ other differ. at_others s.places place other p first differ;
          decided = at_written s.places place p first (pending_upto s.places place pends) ∙ as_planned;
        }

    pub settles_at : (r : steps.Settled) → SettlesAsPlanned run port place s (effect run port s (steps.Settle place v r))
    settles_at steps.Full = full_settles
    settles_at (steps.Present n) = let d = full_settles in record { block = refl; next = refl; done = refl; is_sweeping = refl; pending = d.pending; others = d.others; decided = d.decided }
    settles_at (steps.Installed n numbers) = let d = full_settles in record { block = refl; next = refl; done = refl; is_sweeping = refl; pending = d.pending; others = d.others; decided = d.decided }

  -- ---- a frame

  -- The frame of a place is decided as is planned, and the board is otherwise as far as it was.
  pub record Decides (s t : State) (place : ℕ) : Type 0 where
    pub block : t.block ≡ s.block
    pub next : t.next ≡ s.next + 1
    pub is_sweeping : t.is_sweeping ≡ s.is_sweeping
    pub done : t.done ≡ s.done
    pub pending : pending_count t ≡ pending_count s
    pub others : (other : ℕ) → (other ≡ place → ⊥) → place_at other t ≡ place_at other s
    pub decided : place_at place t ≡ planned run port place

  pub next_swept : (s t : State) (block place : ℕ) → IsSwept run s block → Decides s t place → IsSwept run t block
  next_swept s t block place swept d = record {
    at_rest = record {
      in_block = d.block ∙ swept.at_rest.in_block;
      no_sweep = d.is_sweeping ∙ swept.at_rest.no_sweep;
      none_pending = d.pending ∙ swept.at_rest.none_pending;
    };
    swept = d.done ∙ swept.swept;
  }

  pub may_look : (s : State) (place : ℕ) → place ≡ s.next → block_of run port place ≡ s.block → look_fault run port s place ≡ None
  may_look s place turn block = rw (eq-eqb place s.next turn, eq-eqb (block_of run port place) s.block block) refl

  module _ (s : State) (place : ℕ) (first : 1 ≤ place) (last : place ≤ length s.places) (waits : place_at place s ≡ Waiting) where
    -- an entry decides it
    pub exact_decides : (n : ℕ) → decided_as (entry_of n s.entries) ≡ planned run port place → Decides s (effect run port s (steps.Look place (Exact n))) place
    exact_decides n as_planned =
        let p = decided_as (entry_of n s.entries) in
        let none : is_pending p ≡ false = ap is_pending as_planned ∙ planned-settled run port place in
        let same : count_by is_pending s.places + (if is_pending p then 1 else 0) ≡ count_by is_pending s.places = rw none (omega arith) in record {
          block = refl;
          next = refl;
          is_sweeping = refl;
          done = refl;
          pending = waiting_written s.places place p first last waits ∙ same;
          others = λ other differ. at_others s.places place other p first differ;
          decided = at_written s.places place p first last ∙ as_planned;
        }

    pub mega_decides : (n : ℕ) → decided_as (entry_of n s.entries) ≡ planned run port place → Decides s (effect run port s (steps.Look place (Mega n))) place
    mega_decides n as_planned = let d = exact_decides n as_planned in record { block = refl; next = refl; is_sweeping = refl; done = refl; pending = d.pending; others = d.others; decided = d.decided }

    -- a look misses it, and a settle decides it
    abbrev missed : State
    missed = effect run port s (steps.Look place Miss)

    pub pending_then : is_pending (place_at place missed) ≡ true
    pending_then = ap is_pending (at_written s.places place Pending first last)

    pub settled_decides : (t : State) → SettlesAsPlanned run port place missed t → Decides s t place
    settled_decides t d =
        let more = pending_written s.places place first last waits in
        let fewer = d.pending in record {
          block = d.block;
          next = d.next;
          is_sweeping = d.is_sweeping;
          done = d.done;
          pending = omega (arith, more, fewer);
          others = λ other differ. d.others other differ ∙ at_others s.places place other Pending first differ;
          decided = d.decided;
        }

  -- ---- the next block

  pub may_open : (s : State) (block : ℕ) → IsSwept run s block → last_place run port block < s.next → block < last_block run → open_fault run port s (block + 1) ≡ None
  may_open s block swept all there =
      let looked : last_place run port s.block < s.next = subst (λ k. last_place run port k < s.next) (sym swept.at_rest.in_block) all in
      rw (
        lt-leb s.next (last_place run port s.block) looked,
        swept.at_rest.in_block,
        eq-eqb (block + 1) (block + 1) refl,
        le-leb (block + 1) (last_block run) (omega (arith, there)),
        swept.at_rest.none_pending,
        swept.swept,
        lo_next run block (block + 1) refl,
        le-ltb (hi run block) (hi run block) (omega arith),
      ) refl

-- ---- pending frames, place by place

pub none_left : (s t : State) (place k : ℕ) → k < place + 1 → (k ≡ place) ⊎ (k ≡ place → ⊥) → is_pending (place_at place t) ≡ false
    → ((other : ℕ) → (other ≡ place → ⊥) → place_at other t ≡ place_at other s) → ((j : ℕ) → j < place → is_pending (place_at j s) ≡ false) → is_pending (place_at k t) ≡ false
none_left s t place k upto (inl e) here others before = ap (λ i. is_pending (place_at i t)) e ∙ here
none_left s t place k upto (inr n) here others before = ap is_pending (others k n) ∙ before k (omega (arith, upto, n))

none_counted : (places : List Place) → ((i : ℕ) → is_pending (slice_index_or places i Waiting) ≡ false) → count_by is_pending places ≡ 0
none_counted [] each = refl
none_counted (p ∷ places) each =
    let one : ℕ = 1 in
    let first : (if is_pending p then one else 0) ≡ 0 = rw (each 0) refl in
    let others = none_counted places (λ i. each (suc i)) in
    sum_by-cons (λ x. if is_pending x then 1 else 0) p places ∙ omega (arith, first, others)

pub none_pending_from : (s : State) → ((place : ℕ) → is_pending (place_at place s) ≡ false) → pending_count s ≡ 0
none_pending_from s each = none_counted s.places (λ i. ap is_pending (sym (at_there s.places (i + 1) (omega arith) ∙ ap (λ j. slice_index_or s.places j Waiting) (omega arith))) ∙ each (i + 1))

-- ---- the end

is_decided-planned : (run : Run) (port place : ℕ) → is_decided (planned run port place) ≡ true
unfolding planned
is_decided-planned run port place = refl

pub as_planned : (run : Run) (port place block v : ℕ) → block_of run port place ≡ block → v ≡ hi run block → Decided v (translated run v (key_at run port place)).actions ≡ planned run port place
unfolding planned
as_planned run port place block v in_block is = ap (λ w. Decided w (translated run w (key_at run port place)).actions) (is ∙ ap (hi run) (sym in_block))

all_from : (places : List Place) → ((i : ℕ) → i < length places → is_decided (slice_index_or places i Waiting) ≡ true) → list_all is_decided places ≡ true
all_from [] each = refl
all_from (p ∷ places) each = and_from (is_decided p) (list_all is_decided places) (each 0 (omega arith)) (all_from places (λ i within. each (suc i) (omega (arith, within))))

decided_from : (p : Place) → (p ≡ Waiting → ⊥) → is_pending p ≡ false → is_decided p ≡ true
decided_from Waiting waits_not settled = absurd (waits_not refl)
decided_from Pending waits_not settled = absurd (cc settled)
decided_from (Decided v actions) waits_not settled = refl

-- a board that finished the last block is finished
pub finished_from : (run : Run) (port : ℕ) (s : State) → ArePlaces run port s → IsLookedUp run port s → s.next ≤ length (frames_of run port) + 1
    → IsSwept run s (last_block run) → length (frames_of run port) < s.next → IsFinished run s
finished_from run port s places looked within swept all = record {
  in_last_block = swept.at_rest.in_block;
  all_decided = all_from s.places (λ i inside. decided i (let n = places.all_places in omega (arith, inside, n, all)));
  no_sweep = swept.at_rest.no_sweep;
  swept = swept.swept;
}
  where
    decided : (i : ℕ) → i + 1 < s.next → is_decided (slice_index_or s.places i Waiting) ≡ true
    decided i before =
        let n = places.all_places in
        let here : place_at (i + 1) s ≡ slice_index_or s.places i Waiting = at_there s.places (i + 1) (omega arith) ∙ ap (λ j. slice_index_or s.places j Waiting) (omega arith) in
        ap is_decided (sym here)
        ∙ decided_from (place_at (i + 1) s) (looked.looked (omega (arith, n, within)) (i + 1) (omega arith) before)
        (false_from_ne_true (is_pending (place_at (i + 1) s)) (none_pending s.places (i + 1) swept.at_rest.none_pending))
