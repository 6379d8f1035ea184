-- What steps do to the fields of a board beside its caches, and to the list of a sweep.
use Rattle.std.proofs.Common.{◌≡◌, ℕ, ◌+◌, ◌-◌, ◌≤◌, ◌==◌, max, Bool, true, false, not, List, [], ◌∷◌, inl, inr, length, filter, slice_set, refl, sym, ap, ◌∙◌, subst, arith}
use Rattle.std.proofs.lemmas.Bool.{eq-eqb, ne_eqb, false≢true}
use Rattle.spec_case.specs.Run.{Run}
use Rattle.spec_board.specs.declared.put_done.PutDone.{PutDone}
use Rattle.spec_board.specs.declared.put_done.PutDone.TheVariants.{Idle, Removed, Kept, Replaced}
use Rattle.spec_board.specs.Steps.{Settle, Put, Settled, Present, Full, Installed}
use Rattle.spec_board.specs.State.{State, Decided}
use Rattle.spec_board.specs.Results.{key_at, translated}
use Rattle.spec_board.specs.Effects.{effect, is_among}
use Rattle.table_laws.proofs.MemberLaws.{Among}
use Rattle.pmd_board.specs.Fields.{steps_left}
use Rattle.pmd_board.specs.SweepLists.{without_dropped}

-- the fields that a settle leaves, and those that it changes
pub record IsSettledOf (run : Run) (port place v : ℕ) (r : Settled) (before after : State) : Type 0 where
  pub block : after.block ≡ before.block
  pub newest : after.newest ≡ max before.newest v
  pub floor : after.floor ≡ before.floor
  pub done : after.done ≡ before.done
  pub is_sweeping : after.is_sweeping ≡ before.is_sweeping
  pub listed : after.listed ≡ without_dropped r before.listed
  pub next : after.next ≡ before.next
  pub clock : after.clock ≡ before.clock
  pub places : after.places ≡ slice_set before.places (place - 1) (Decided v (translated run v (key_at run port place)).actions)

pub settled_of : (run : Run) (port place v : ℕ) (r : Settled) (s : State) → IsSettledOf run port place v r s (effect run port s (Settle place v r))
settled_of run port place v (Present n) s =
    record { block = refl; newest = refl; floor = refl; done = refl; is_sweeping = refl; listed = refl; next = refl; clock = refl; places = refl }
settled_of run port place v Full s =
    record { block = refl; newest = refl; floor = refl; done = refl; is_sweeping = refl; listed = refl; next = refl; clock = refl; places = refl }
settled_of run port place v (Installed n numbers) s =
    record { block = refl; newest = refl; floor = refl; done = refl; is_sweeping = refl; listed = refl; next = refl; clock = refl; places = refl }

-- the same of a put
pub record IsPutOf (number v : ℕ) (before after : State) : Type 0 where
  pub block : after.block ≡ before.block
  pub newest : after.newest ≡ max before.newest v
  pub floor : after.floor ≡ before.floor
  pub done : after.done ≡ before.done
  pub is_sweeping : after.is_sweeping ≡ before.is_sweeping
  pub listed : after.listed ≡ filter (λ n. not (n == number)) before.listed
  pub made : after.made ≡ before.made
  pub next : after.next ≡ before.next
  pub clock : after.clock ≡ before.clock
  pub places : after.places ≡ before.places

-- who left the list doesn't leave it again
left_once : (number : ℕ) (ns : List ℕ)
    → filter (λ n. not (is_among (number ∷ []) n)) (filter (λ n. not (n == number)) ns) ≡ filter (λ n. not (n == number)) ns
left_once number [] = refl
left_once number (n ∷ ns) = at (n == number) refl (left_once number ns)
  where
    at : (t : Bool) → (n == number) ≡ t
        → filter (λ n. not (is_among (number ∷ []) n)) (filter (λ n. not (n == number)) ns) ≡ filter (λ n. not (n == number)) ns
        → filter (λ n. not (is_among (number ∷ []) n)) (filter (λ n. not (n == number)) (n ∷ ns)) ≡ filter (λ n. not (n == number)) (n ∷ ns)
    at true is others = rw is others
    at false is others =
        let other : (number == n) ≡ false = ne_eqb number n (λ e. false≢true (sym is ∙ eq-eqb n number (sym e))) in
        rw (is, other) (ap (λ l. n ∷ l) others)

pub put_of_state : (run : Run) (port number v : ℕ) (r : PutDone) (s : State) → IsPutOf number v s (effect run port s (Put number v r))
put_of_state run port number v Idle s =
    record { block = refl; newest = refl; floor = refl; done = refl; is_sweeping = refl; listed = left_once number s.listed; made = refl; next = refl; clock = refl; places = refl }
put_of_state run port number v Removed s =
    record { block = refl; newest = refl; floor = refl; done = refl; is_sweeping = refl; listed = left_once number s.listed; made = refl; next = refl; clock = refl; places = refl }
put_of_state run port number v Kept s =
    record { block = refl; newest = refl; floor = refl; done = refl; is_sweeping = refl; listed = refl; made = refl; next = refl; clock = refl; places = refl }
put_of_state run port number v Replaced s =
    record { block = refl; newest = refl; floor = refl; done = refl; is_sweeping = refl; listed = refl; made = refl; next = refl; clock = refl; places = refl }

-- ---- how long the list is

no_more : (p : ℕ → Bool) (ns : List ℕ) → length (filter p ns) ≤ length ns
no_more p [] = omega arith
no_more p (n ∷ ns) = at (p n) refl (no_more p ns)
  where
    at : (t : Bool) → p n ≡ t → length (filter p ns) ≤ length ns → length (filter p (n ∷ ns)) ≤ length (n ∷ ns)
    at true is le = rw is (omega (arith, le))
    at false is le = rw is (omega (arith, le))

pub fewer_left : (number : ℕ) (ns : List ℕ) → Among number ns → length (filter (λ n. not (n == number)) ns) + 1 ≤ length ns
fewer_left number [] m = absurd m
fewer_left number (n ∷ ns) (inl q) = rw (eq-eqb n number (sym q)) (let le = no_more (λ n. not (n == number)) ns in omega (arith, le))
fewer_left number (n ∷ ns) (inr m) = at (n == number) refl (fewer_left number ns m)
  where
    at : (t : Bool) → (n == number) ≡ t → length (filter (λ n. not (n == number)) ns) + 1 ≤ length ns
        → length (filter (λ n. not (n == number)) (n ∷ ns)) + 1 ≤ length (n ∷ ns)
    at true is le = rw is (omega (arith, le))
    at false is le = rw is (omega (arith, le))

pub dropped_left : (r : Settled) (ns : List ℕ) → length (without_dropped r ns) ≤ length ns
dropped_left (Present n) ns = omega arith
dropped_left Full ns = omega arith
dropped_left (Installed n numbers) ns = no_more (λ m. not (is_among numbers m)) ns

-- The steps that are left, by a state and by the fields of a board with its versions, where the list got no longer.
pub steps_fewer : (m n next next' last block block' : ℕ) (t u : Bool) (xs ys zs : List ℕ) → m ≡ n → next ≡ next' → block ≡ block' → t ≡ u → xs ≡ ys
    → length zs ≤ length ys → steps_left n next' last block' u (length zs) ≤ steps_left m next last block t (length xs)
steps_fewer m n next next' last block block' t u xs ys zs frames nexts blocks sweeps listed le =
    rw (frames, nexts, blocks, sweeps, listed) (at u)
  where
    at : (x : Bool) → steps_left n next' last block' x (length zs) ≤ steps_left n next' last block' x (length ys)
    at true = omega (arith, le)
    at false = omega arith

-- a sweep runs where an entry is listed
pub sweeps_where_listed : (s : State) (number : ℕ) → (s.is_sweeping ≡ false → s.listed ≡ []) → Among number s.listed → s.is_sweeping ≡ true
sweeps_where_listed s number none among = at s.is_sweeping refl
  where
    at : (t : Bool) → s.is_sweeping ≡ t → s.is_sweeping ≡ true
    at true is = is
    at false is = absurd (subst (Among number) (none is) among)
