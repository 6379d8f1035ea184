-- That the steps of a board are those of the definition's stages.
use Rattle.std.proofs.Common.{◌≡◌, ◌⊎◌, inl, inr, ℕ, zero, suc, ◌+◌, ◌-◌, ◌≤◌, ◌<◌, min, if◌then◌else◌, Bool, true, false, List, [], ◌∷◌, ◌++◌, length, map, filter, Option, Some, None, slice_index_or, slice_set, take, drop, refl, sym, ap, ◌∙◌, subst, arith}
use Rattle.std.specs.List.{fold, range_with_len}
use Rattle.std.specs.Option.{option_map}
use Rattle.std.proofs.lemmas.Bool.{le-ltb, lt-ltb, cond-true, cond-false, cases_eq}
use Rattle.std.proofs.lemmas.List.{drop_all, take_all, append-nil, get_or_default, get_or-set_same, get_or-set_other}
use Rattle.std.proofs.lemmas.List.Sums.{fold-append}
use Rattle.spec_case.specs.Run.{Run}
use Rattle.spec_case.specs.Blocks.{hi, last_block}
use Rattle.spec_board.specs.declared.looked.Looked.{Looked}
use Rattle.spec_board.specs.declared.put_done.PutDone.{PutDone}
use Rattle.spec_board.specs.Steps.{Step, Look, Settle, Begin, Put, End}
use Rattle.spec_board.specs.State.{Entry, State, place_at, is_pending}
use Rattle.spec_board.specs.Results.{key_at, looked, settled, entry_of, put_done}
use Rattle.spec_board.specs.Effects.{effect}
use Rattle.spec_board.specs.Schedules.{Board, with_step, settle_at, settle_if_missed, put_entry, put_at, swept, with_sweep_ended, with_pending_settled, with_sweep_made, decide_next, with_all_decided, with_next_opened, finish_board, least_block}
use Rattle.pmd_board.specs.BoardView.{BoardView, Appends, HasSettled, state_of}
use Rattle.board_laws.proofs.NumberLaws.{entry_of-some}
use Rattle.board_laws.proofs.Journals.{after_step}
use Rattle.run_boards.specs.Progress.{HasPut}
use Rattle.run_boards.specs.Scheduled.{under_way, block_to_finish, with_listed_put, settled_if_pending}

-- ---- steps

-- the state of a board with one more step
pub state_after : (run : Run) (a b : BoardView) (step : Step) → Appends run a step b → state_of run b ≡ effect run a.port (state_of run a) step
state_after run a b step appends = ap (state_of run) appends.appended ∙ after_step run a.port a.journal step

pub stepped : (run : Run) (a b : BoardView) (step : Step) → Appends run a step b → under_way run b ≡ with_step run step (under_way run a)
stepped run a b step appends =
    let moved : State → Board = λ t. record { port = a.port; steps = a.journal ++ step ∷ []; state = t; snaps = []; checks = [] } in
    ap (under_way run) appends.appended ∙ ap moved (after_step run a.port a.journal step)

-- a settle gives what the definition's does, where the board has the run's limit
pub settled_step : (run : Run) (a b : BoardView) (place v : ℕ) → HasSettled run a place v b → a.flow_limit ≡ run.flow_limit → under_way run b ≡ settle_at run v place (under_way run a)
settled_step run a b place v settles limit =
    stepped run a b (Settle place v settles.result) settles.appends
    ∙ ap (λ r. with_step run (Settle place v r) (under_way run a)) (settles.appends.legal.1 ∙ ap (λ l. settled run l (key_at run a.port place) v (state_of run a)) limit)

put_entry_is : (run : Run) (b : Board) (n v : ℕ) (r : PutDone) (o : Option Entry) → entry_of n b.state.entries ≡ o → option_map (λ (e : Entry). put_done run e v b.state) o ≡ Some r
    → put_entry run v o b ≡ with_step run (Put n v r) b
put_entry_is run b n v r None is done = absurd (cc done)
put_entry_is run b n v r (Some e) is done =
    let number = (entry_of-some n b.state.entries e is).1 in
    ap (λ k. with_step run (Put k v (put_done run e v b.state)) b) number ∙ ap (λ x. with_step run (Put n v x) b) (cc done)

-- and so does a put
pub put_step : (run : Run) (a b : BoardView) (n v : ℕ) → HasPut run a n v b → under_way run b ≡ put_at run v n (under_way run a)
put_step run a b n v puts =
    stepped run a b (Put n v puts.result) puts.appends
    ∙ sym (put_entry_is run (under_way run a) n v puts.result (entry_of n (state_of run a).entries) refl puts.appends.legal.1)

-- ---- stages

-- the next place is looked up, with this result
pub decided_next : (run : Run) (v place : ℕ) (r : Looked) (b : Board) → place ≡ b.state.next → r ≡ looked (key_at run b.port place) b.state
    → decide_next run v b place ≡ settle_if_missed run v place r (with_step run (Look place r) b)
decided_next run v place r b turn found =
    ap (λ p. settle_if_missed run v place (looked (key_at run b.port place) b.state) (with_step run (Look p (looked (key_at run b.port p) b.state)) b)) (sym turn)
    ∙ ap (λ x. settle_if_missed run v place x (with_step run (Look place x) b)) (sym found)

pub no_sweep_made : (run : Run) (v : ℕ) (b : Board) → hi run b.state.block ≤ b.state.done → with_sweep_made run v b ≡ b
no_sweep_made run v b enough = rw (le-ltb b.state.done (hi run b.state.block) enough) refl

pub sweep_made : (run : Run) (v h : ℕ) (b : Board) → h ≡ hi run b.state.block → b.state.done < h → with_sweep_made run v b ≡ with_step run End (with_listed_put run v (with_step run (Begin h) b))
sweep_made run v h b is less =
    cond-true _ _ _ (lt-ltb b.state.done (hi run b.state.block) (omega (arith, less, is)))
    ∙ ap (λ w. swept run v (with_step run (Begin w) b)) (sym is)

-- the first of those listed is put, and then the others
pub first_put : (run : Run) (v n : ℕ) (others : List ℕ) (a b : Board) → a.state.listed ≡ n ∷ others → b.state.listed ≡ others → b ≡ put_at run v n a
    → with_listed_put run v b ≡ with_listed_put run v a
first_put run v n others a b was left is =
    let put_all = fold (λ (board : Board) (number : ℕ). put_at run v number board) in
    ap (put_all b) left ∙ ap (λ x. put_all x others) is ∙ sym (ap (put_all a) was)

pub all_put : (run : Run) (v : ℕ) (b : Board) → b.state.listed ≡ [] → with_listed_put run v b ≡ b
all_put run v b none = ap (fold (λ (board : Board) (number : ℕ). put_at run v number board) b) none

pub no_sweep_ended : (run : Run) (v : ℕ) (b : Board) → b.state.is_sweeping ≡ false → with_sweep_ended run v b ≡ b
no_sweep_ended run v b rests = rw rests refl

pub sweep_ended : (run : Run) (v : ℕ) (b : Board) → b.state.is_sweeping ≡ true → with_sweep_ended run v b ≡ with_step run End (with_listed_put run v b)
sweep_ended run v b sweeps = rw sweeps refl

pub finish_board_is : (run : Run) (v : ℕ) (b : Board)
    → finish_board run v b ≡ with_next_opened run (with_all_decided run v (with_sweep_made run v (with_pending_settled run v (with_sweep_ended run v b))))
unfolding finish_board
finish_board_is run v b = refl

-- ---- folds

range_more : (a n : ℕ) → range_with_len a (suc n) ≡ range_with_len a n ++ (a + n) ∷ []
range_more a zero = ap (λ x. x ∷ []) (omega arith)
range_more a (suc n) =
    let e : a + 1 + n ≡ a + suc n = omega arith in
    ap (λ xs. a ∷ xs) (range_more (a + 1) n ∙ ap (λ x. range_with_len (a + 1) n ++ x ∷ []) e)

pub fold_more : {B : Type 0} (f : B → ℕ → B) (b : B) (a n m i : ℕ) → m ≡ suc n → i ≡ a + n → fold f b (range_with_len a m) ≡ f (fold f b (range_with_len a n)) i
fold_more f b a n m i is at =
    ap (λ k. fold f b (range_with_len a k)) is ∙ ap (fold f b) (range_more a n)
    ∙ fold-append f b (range_with_len a n) ((a + n) ∷ [])
    ∙ ap (f (fold f b (range_with_len a n))) (sym at)

-- one more item of a list that is sifted
fold_sifted : {B : Type 0} (f : B → ℕ → B) (test : ℕ → Bool) (b : B) (xs : List ℕ) (x : ℕ)
    → fold f b (filter test (xs ++ x ∷ [])) ≡ (if test x then f (fold f b (filter test xs)) x else fold f b (filter test xs))
fold_sifted f test b [] x = by_cases (test x)
  where
    by_cases : (t : Bool) → fold f b (if t then x ∷ [] else []) ≡ (if t then f b x else b)
    by_cases true = refl
    by_cases false = refl
fold_sifted f test b (y ∷ xs) x = by_cases (test y) (fold_sifted f test (f b y) xs x) (fold_sifted f test b xs x)
  where
    by_cases : (t : Bool) → fold f (f b y) (filter test (xs ++ x ∷ [])) ≡ (if test x then f (fold f (f b y) (filter test xs)) x else fold f (f b y) (filter test xs))
        → fold f b (filter test (xs ++ x ∷ [])) ≡ (if test x then f (fold f b (filter test xs)) x else fold f b (filter test xs))
        → fold f b (if t then y ∷ filter test (xs ++ x ∷ []) else filter test (xs ++ x ∷ []))
        ≡ (if test x then f (fold f b (if t then y ∷ filter test xs else filter test xs)) x else fold f b (if t then y ∷ filter test xs else filter test xs))
    by_cases true kept dropped = kept
    by_cases false kept dropped = dropped

pub sifted_more : {B : Type 0} (f : B → ℕ → B) (test : ℕ → Bool) (b : B) (a n m i : ℕ) → m ≡ suc n → i ≡ a + n
    → fold f b (filter test (range_with_len a m)) ≡ (if test i then f (fold f b (filter test (range_with_len a n))) i else fold f b (filter test (range_with_len a n)))
sifted_more f test b a n m i is at =
    ap (λ k. fold f b (filter test (range_with_len a k))) is
    ∙ ap (λ xs. fold f b (filter test xs)) (range_more a n)
    ∙ fold_sifted f test b (range_with_len a n) (a + n)
    ∙ ap (λ k. if test k then f (fold f b (filter test (range_with_len a n))) k else fold f b (filter test (range_with_len a n))) (sym at)

-- those that are sifted out don't count
sifted_out : {B : Type 0} (f : B → ℕ → B) (test : ℕ → Bool) (b : B) (a n d : ℕ) → ((k : ℕ) → a + n ≤ k → test k ≡ false)
    → fold f b (filter test (range_with_len a (n + d))) ≡ fold f b (filter test (range_with_len a n))
sifted_out f test b a n zero none = let e : n + 0 ≡ n = omega arith in ap (λ k. fold f b (filter test (range_with_len a k))) e
sifted_out f test b a n (suc d) none =
    sifted_more f test b a (n + d) (n + suc d) (a + (n + d)) (omega arith) refl
    ∙ cond-false (test (a + (n + d))) _ _ (none (a + (n + d)) (omega arith))
    ∙ sifted_out f test b a n d none

pub sifted_upto : {B : Type 0} (f : B → ℕ → B) (test : ℕ → Bool) (b : B) (a n m : ℕ) → n ≤ m → ((k : ℕ) → a + n ≤ k → test k ≡ false)
    → fold f b (filter test (range_with_len a m)) ≡ fold f b (filter test (range_with_len a n))
sifted_upto f test b a n m order none =
    let e : m ≡ n + (m - n) = omega (arith, order) in
    ap (λ k. fold f b (filter test (range_with_len a k))) e ∙ sifted_out f test b a n (m - n) none

-- one more place is settled if it is pending
pub settled_more : (run : Run) (v place : ℕ) (a b : Board) → 1 ≤ place
    → b ≡ fold (λ x k. settle_at run v k x) a (filter (λ k. is_pending (place_at k a.state)) (range_with_len 1 (place - 1)))
    → is_pending (place_at place b.state) ≡ is_pending (place_at place a.state)
    → settled_if_pending run v place b ≡ fold (λ x k. settle_at run v k x) a (filter (λ k. is_pending (place_at k a.state)) (range_with_len 1 (place + 1 - 1)))
settled_more run v place a b from is same =
    let test : ℕ → Bool = λ k. is_pending (place_at k a.state) in
    ap (λ t. if t then settle_at run v place b else b) same
    ∙ ap (λ x. if test place then settle_at run v place x else x) is
    ∙ sym (sifted_more (λ x k. settle_at run v k x) test a 1 (place - 1) (place + 1 - 1) place (omega (arith, from)) (omega (arith, from)))

-- ---- lists of boards

-- what is so at each place is so of the lists
pub mapped : {B : Type 0} (F G : BoardView → B) (old new : List BoardView) → length new ≡ length old
    → ((k : ℕ) (d : BoardView) → k < length old → F (slice_index_or new k d) ≡ G (slice_index_or old k d)) → map F new ≡ map G old
mapped F G [] [] same each = refl
mapped F G [] (b ∷ new) same each = absurd (omega (arith, same))
mapped F G (a ∷ old) [] same each = absurd (omega (arith, same))
mapped F G (a ∷ old) (b ∷ new) same each =
    let first = each 0 b (omega arith) in
    let others = mapped F G old new (omega (arith, same)) (λ k d within. each (suc k) d (omega (arith, within))) in
    ap (λ x. x ∷ map F new) first ∙ ap (λ xs. G a ∷ xs) others

-- a list that was written whole
pub written : (len : ℕ) (new old : List BoardView) → length new ≡ length old → length old ≡ len → take len (new ++ drop (length new) old) ≡ new
written len new old same is =
    ap (λ xs. take len (new ++ xs)) (drop_all (length new) old (omega (arith, same)))
    ∙ ap (take len) (append-nil new) ∙ take_all len new (omega (arith, same, is))

-- one place more is written, where those before it are and the others aren't
pub one_more : (P : BoardView → BoardView → Type 0) (old items : List BoardView) (i : ℕ) (before after : BoardView) → i < length items → before ≡ slice_index_or items i before
    → ((k : ℕ) (d : BoardView) → i ≤ k → slice_index_or items k d ≡ slice_index_or old k d) → ((k : ℕ) (d : BoardView) → k < i → P (slice_index_or old k d) (slice_index_or items k d)) → P before after
    → (k : ℕ) (d : BoardView) → k < i + 1 → P (slice_index_or old k d) (slice_index_or (slice_set items i after) k d)
one_more P old items i before after within is others done new k d upto = by_cases (cases_eq k i)
  where
    by_cases : (k ≡ i) ⊎ (k ≡ i → ⊥) → P (slice_index_or old k d) (slice_index_or (slice_set items i after) k d)
    by_cases (inl e) =
        let was : before ≡ slice_index_or old i d = is ∙ get_or_default items i before d within ∙ others i d (omega arith) in
        let here : P (slice_index_or old i d) (slice_index_or (slice_set items i after) i d) = subst (P (slice_index_or old i d)) (sym (get_or-set_same items i after d within)) (subst (λ b. P b after) was new) in
        subst (λ j. P (slice_index_or old j d) (slice_index_or (slice_set items i after) j d)) (sym e) here
    by_cases (inr n) = subst (P (slice_index_or old k d)) (sym (get_or-set_other items i k after d n)) (done k d (omega (arith, upto, n)))

-- ---- rounds

pub least_most : (most : ℕ) (bs : List Board) → least_block most bs ≤ most
unfolding least_block
least_most most [] = omega arith
least_most most (b ∷ bs) = omega (arith, least_most most bs)

pub least_le : (run : Run) (most : ℕ) (bs : List BoardView) (k : ℕ) (d : BoardView) → k < length bs → least_block most (map (under_way run) bs) ≤ (state_of run (slice_index_or bs k d)).block
unfolding least_block
least_le run most [] k d within = absurd (omega (arith, within))
least_le run most (b ∷ bs) zero d within = omega arith
least_le run most (b ∷ bs) (suc k) d within = let e = least_le run most bs k d (omega (arith, within)) in omega (arith, e)

pub least_above : (run : Run) (most low : ℕ) (bs : List BoardView) → low ≤ most → ((k : ℕ) (d : BoardView) → k < length bs → low ≤ (state_of run (slice_index_or bs k d)).block)
    → low ≤ least_block most (map (under_way run) bs)
unfolding least_block
least_above run most low [] there above = there
least_above run most low (b ∷ bs) there above =
    let first = above 0 b (omega arith) in
    let others = least_above run most low bs there (λ k d within. above (suc k) d (omega (arith, within))) in omega (arith, first, others)

pub least_none : (most : ℕ) → most ≡ least_block most []
unfolding least_block
least_none most = refl

pub least_more : (most : ℕ) (bs : List Board) (b : Board) → least_block most (bs ++ b ∷ []) ≡ min (least_block most bs) b.state.block
unfolding least_block
least_more most [] b = omega arith
least_more most (c ∷ bs) b = let e = least_more most bs b in omega (arith, e)

pub least_there : (run : Run) (bs : List BoardView) → block_to_finish run bs ≤ last_block run
least_there run bs = least_most (last_block run) (map (under_way run) bs)
