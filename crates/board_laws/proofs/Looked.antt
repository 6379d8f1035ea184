-- How many frames are decided: each frame that was looked up is decided or pending.
use Rattle.std.proofs.Common.{◌≡◌, ℕ, zero, suc, ◌+◌, ◌-◌, ◌*◌, ◌≤◌, ◌==◌, true, if◌then◌else◌, List, [], ◌∷◌, length, slice_index_or, slice_set, count_by, All, None, refl, ap, ◌∙◌, arith, length-append}
use Rattle.std.proofs.lemmas.List.Sums.{sum_by-le, count_by-le-length}
use Rattle.spec_actions.specs.declared.action.DpAction.{DpAction}
use Rattle.spec_pcap.specs.Pcap.{Frame}
use Rattle.spec_xlate.specs.Translation.{lookup_limit}
use Rattle.spec_case.specs.Run.{Run, last_version, frames_of, frame_at}
use Rattle.spec_case.specs.Blocks.{AreInOrder, block_of}
use Rattle.spec_board.specs.declared.looked.Looked.TheVariants.{Exact, Mega, Miss}
use Rattle.spec_board.specs.declared.put_done.PutDone.TheVariants.{Idle, Removed, Kept, Replaced}
use Rattle.spec_board.specs.Steps.{Step, Open, Look, Settle, Begin, Put, End, Settled, Present, Full, Installed}
use Rattle.spec_board.specs.State.{State, Place, Pending, Decided, place_at, is_pending, pending_count}
use Rattle.spec_board.specs.Results.{key_at, switch_at, translated, entry_of}
use Rattle.spec_board.specs.Effects.{effect, decided_as}
use Rattle.spec_board.specs.Journals.{Legal, IsLegal, opened, after}
use Rattle.spec_board.specs.Decisions.{Decision, decided_place, decision_at, decisions_from, decisions, visits_of, due_packets, due_bytes}
use Rattle.table_laws.proofs.MemberLaws.{All_from-Among}
use Rattle.board_laws.specs.Entries.{HasKeys}
use Rattle.board_laws.proofs.Refusals.{may_settle, may_look}
use Rattle.board_laws.proofs.PlaceLaws.{waiting_written, decided_written, none_pending_yet}
use Rattle.board_laws.proofs.Journals.{after_all, kept_along}
use Rattle.board_laws.proofs.Hits.{Hits}
use Rattle.board_laws.proofs.KeptInOrder.{IsKeptInOrder, ordered_opened, ordered_keeps, AreTaken, all_taken}
use Rattle.board_laws.proofs.Told.{DecidesAs, there, waits, exact_hit, mega_hit, exact_decides, mega_decides, settled}
use Rattle.board_laws.proofs.Once.{decision_is}
use Rattle.board_laws.proofs.Bounded.{few_visits}

module _ (run : Run) (port limit : ℕ) (s : State) (k : IsKeptInOrder run port limit s) where
  -- a step decides as many frames as it looks up, but for those that are pending then and weren't
  abbrev next : Step → State
  next step = effect run port s step

  abbrev Advances : Step → Type 0
  Advances step = length (decision_at (decided_place step) s (next step)) + pending_count (next step) + s.next ≡ pending_count s + (next step).next

  one_decision : (step : Step) (place v : ℕ) (actions : List DpAction) → DecidesAs run port s (next step) step place v actions
      → length (decision_at (decided_place step) s (next step)) ≡ 1
  one_decision step place v actions d = ap length (decision_is run port s (next step) step place v actions d)

  quiet : (step : Step) → decided_place step ≡ None → pending_count (next step) ≡ pending_count s → (next step).next ≡ s.next → Advances step
  quiet step none p n =
      let z : length (decision_at (decided_place step) s (next step)) ≡ 0 = ap (λ o. length (decision_at o s (next step))) none in
      omega (arith, z, p, n)

  -- the next place is written
  written : (place : ℕ) (p : Place) → (place ≡ s.next) × (block_of run port place ≡ s.block)
      → count_by is_pending (slice_set s.places (place - 1) p) ≡ pending_count s + (if is_pending p then 1 else 0)
  written place p may =
      let h = there run port limit s k place may in
      waiting_written s.places place p h.0 h.1 (waits run port limit s k place may)

  missed : (place : ℕ) → Legal run port limit s (Look place Miss) → Advances (Look place Miss)
  missed place legal = let w = written place Pending (may_look run port s place legal.0) in omega (arith, w)

  hit : (step : Step) (place n v : ℕ) (actions : List DpAction) → (place ≡ s.next) × (block_of run port place ≡ s.block)
      → DecidesAs run port s (next step) step place v actions → Hits s (key_at run port place) n
      → (next step).places ≡ slice_set s.places (place - 1) (decided_as (entry_of n s.entries)) → (next step).next ≡ s.next + 1 → Advances step
  hit step place n v actions may d h places moves =
      let p = decided_as (entry_of n s.entries) in
      let one = one_decision step place v actions d in
      let count : pending_count (next step) ≡ pending_count s + (if is_pending p then 1 else 0) = ap (count_by is_pending) places ∙ written place p may in
      let Pends : Place → ℕ = λ x. if is_pending x then 1 else 0 in
      let none : Pends p ≡ 0 = ap (λ o. Pends (decided_as o)) h.is in
      omega (arith, one, count, none, moves)

  settle : (step : Step) (place v : ℕ) (actions : List DpAction) → is_pending (place_at place s) ≡ true
      → DecidesAs run port s (next step) step place v actions → (next step).places ≡ slice_set s.places (place - 1) (Decided v actions) → (next step).next ≡ s.next
      → Advances step
  settle step place v actions pends d places stays =
      let one = one_decision step place v actions d in
      let count = ap (λ (n : ℕ). n + 1) (ap (count_by is_pending) places) ∙ decided_written s.places place v actions pends in
      omega (arith, one, count, stays)

  settles : (place v : ℕ) (r : Settled) → Legal run port limit s (Settle place v r) → Advances (Settle place v r)
  settles place v (Present n) legal =
      settle (Settle place v (Present n)) place v _ (may_settle run s place v legal.0).pending (settled run port limit s k place v (Present n) legal) refl refl
  settles place v Full legal =
      settle (Settle place v Full) place v _ (may_settle run s place v legal.0).pending (settled run port limit s k place v Full legal) refl refl
  settles place v (Installed n numbers) legal =
      settle (Settle place v (Installed n numbers)) place v _ (may_settle run s place v legal.0).pending (settled run port limit s k place v (Installed n numbers) legal) refl refl

  advances : (step : Step) → Legal run port limit s step → HasKeys run port (effect run port s step).next → Advances step
  advances (Open block) legal keys = quiet (Open block) refl refl refl
  advances (Look place (Exact n)) legal keys =
      hit (Look place (Exact n)) place n _ _ (may_look run port s place legal.0)
      (exact_decides run port limit s k place n legal keys) (exact_hit run port limit s k place n legal) refl refl
  advances (Look place (Mega n)) legal keys =
      hit (Look place (Mega n)) place n _ _ (may_look run port s place legal.0)
      (mega_decides run port limit s k place n legal keys) (mega_hit run port limit s k place n legal) refl refl
  advances (Look place Miss) legal keys = missed place legal
  advances (Settle place v (Present n)) legal keys = settles place v (Present n) legal
  advances (Settle place v Full) legal keys = settles place v Full legal
  advances (Settle place v (Installed n numbers)) legal keys = settles place v (Installed n numbers) legal
  advances (Begin v) legal keys = quiet (Begin v) refl refl refl
  advances (Put n v Idle) legal keys = quiet (Put n v Idle) refl refl refl
  advances (Put n v Removed) legal keys = quiet (Put n v Removed) refl refl refl
  advances (Put n v Kept) legal keys = quiet (Put n v Kept) refl refl refl
  advances (Put n v Replaced) legal keys = quiet (Put n v Replaced) refl refl refl
  advances End legal keys = quiet End refl refl refl

  -- the next place is one of the trace, or the one after it
  next_looked : (place : ℕ) → (place ≡ s.next) × (block_of run port place ≡ s.block) → s.next + 1 ≤ length (frames_of run port) + 1
  next_looked place may =
      let h = (there run port limit s k place may).1 in
      let turn = may.0 in
      omega (arith, h, turn, k.kept.places.all_places)

  next_keeps : s.next ≤ length (frames_of run port) + 1 → (step : Step) → Legal run port limit s step
      → (effect run port s step).next ≤ length (frames_of run port) + 1
  next_keeps l (Open block) legal = l
  next_keeps l (Look place (Exact n)) legal = next_looked place (may_look run port s place legal.0)
  next_keeps l (Look place (Mega n)) legal = next_looked place (may_look run port s place legal.0)
  next_keeps l (Look place Miss) legal = next_looked place (may_look run port s place legal.0)
  next_keeps l (Settle place v (Present n)) legal = l
  next_keeps l (Settle place v Full) legal = l
  next_keeps l (Settle place v (Installed n numbers)) legal = l
  next_keeps l (Begin v) legal = l
  next_keeps l (Put n v Idle) legal = l
  next_keeps l (Put n v Removed) legal = l
  next_keeps l (Put n v Kept) legal = l
  next_keeps l (Put n v Replaced) legal = l
  next_keeps l End legal = l

-- ---- over a journal

module _ (run : Run) (port limit : ℕ) where
  advanced_from : (s : State) (steps : List Step) → AreTaken run port limit s steps
      → length (decisions_from run port s steps) + pending_count (after_all run port s steps) + s.next ≡ pending_count s + (after_all run port s steps).next
  unfolding decisions_from
  advanced_from s [] taken = omega arith
  advanced_from s (step ∷ steps) taken =
      let t = effect run port s step in
      let others = advanced_from t steps taken.1 in
      let one = advances run port limit s taken.0.kept step taken.0.legal taken.0.keys in
      let both = length-append (decision_at (decided_place step) s t) (decisions_from run port t steps) in
      add_up _ _ _ _ _ _ _ _ _ others one both
    where
      add_up : (d1 d2 d p0 p1 p2 n0 n1 n2 : ℕ) → d2 + p2 + n1 ≡ p1 + n2 → d1 + p1 + n0 ≡ p0 + n1 → d ≡ d1 + d2 → d + p2 + n0 ≡ p0 + n2
      add_up d1 d2 d p0 p1 p2 n0 n1 n2 a b c = omega arith

-- each frame that was looked up is decided or pending
pub looked_up : (run : Run) (port limit : ℕ) (steps : List Step) → AreInOrder run.syncs (last_version run) → HasKeys run port (after run port steps).next
    → IsLegal run port limit steps → length (decisions run port steps) + pending_count (after run port steps) + 1 ≡ (after run port steps).next
looked_up run port limit steps in_order keys legal =
    let a = advanced_from run port limit (opened run port) steps (all_taken run port limit in_order steps legal keys) in
    let z = none_pending_yet (length (frames_of run port)) in
    omega (arith, a, z)

pub next_after : (run : Run) (port limit : ℕ) (steps : List Step) → AreInOrder run.syncs (last_version run) → IsLegal run port limit steps
    → (after run port steps).next ≤ length (frames_of run port) + 1
next_after run port limit steps in_order legal =
    let Within : State → Type 0 = λ s. IsKeptInOrder run port limit s × (s.next ≤ length (frames_of run port) + 1) in
    (kept_along run port limit Within keeps (opened run port) (ordered_opened run port limit, omega arith) steps legal).1
  where
    keeps : (s : State) → IsKeptInOrder run port limit s × (s.next ≤ length (frames_of run port) + 1) → (step : Step) → Legal run port limit s step
        → IsKeptInOrder run port limit (effect run port s step) × ((effect run port s step).next ≤ length (frames_of run port) + 1)
    keeps s k step legal = (ordered_keeps run port limit in_order s k.0 step legal, next_keeps run port limit s k.0 k.1 step legal)

pub few_decisions : (run : Run) (port limit : ℕ) (steps : List Step) → AreInOrder run.syncs (last_version run) → HasKeys run port (after run port steps).next
    → IsLegal run port limit steps → length (decisions run port steps) ≤ length (frames_of run port)
few_decisions run port limit steps in_order keys legal =
    omega (arith, looked_up run port limit steps in_order keys legal, next_after run port limit steps in_order legal)

-- ---- how much a rule is due at most

visited_le : (run : Run) (port rule : ℕ) (d : Decision) → visits_of run port rule d ≤ lookup_limit
visited_le run port rule d =
    let v = (translated run d.version (key_at run port d.place)).visits in
    omega (arith, count_by-le-length (λ r. r == rule) v, few_visits (switch_at run d.version) (key_at run port d.place))

times_le : (a b c : ℕ) → a ≤ b → a * c ≤ b * c
times_le a b c h = grind arith

times_le_both : (a b c d : ℕ) → a ≤ b → c ≤ d → a * c ≤ b * d
times_le_both a b c d h g = grind arith

pub due_packets_most : (run : Run) (port limit rule : ℕ) (steps : List Step) → AreInOrder run.syncs (last_version run)
    → HasKeys run port (after run port steps).next → IsLegal run port limit steps
    → due_packets run port steps rule ≤ length (frames_of run port) * lookup_limit
due_packets_most run port limit rule steps in_order keys legal =
    let ds = decisions run port steps in
    let each = All_from-Among (λ (d : Decision). visits_of run port rule d ≤ lookup_limit) ds (λ d m. visited_le run port rule d) in
    let a = sum_by-le (visits_of run port rule) lookup_limit ds each in
    let b = times_le (length ds) (length (frames_of run port)) lookup_limit (few_decisions run port limit steps in_order keys legal) in
    omega (arith, a, b)

pub frame_le : (frames : List Frame) (i m : ℕ) → All (λ (f : Frame). length f.bytes ≤ m) frames
    → length (slice_index_or frames i (record { time = 0; bytes = [] })).bytes ≤ m
frame_le [] i m h = omega arith
frame_le (f ∷ fs) zero m h = h 0 f (omega arith)
frame_le (f ∷ fs) (suc i) m h = frame_le fs i m (λ k d l. h (suc k) d (omega (arith, l)))

pub due_bytes_most : (run : Run) (port limit rule most : ℕ) (steps : List Step) → AreInOrder run.syncs (last_version run)
    → HasKeys run port (after run port steps).next → All (λ (f : Frame). length f.bytes ≤ most) (frames_of run port) → IsLegal run port limit steps
    → due_bytes run port steps rule ≤ length (frames_of run port) * (lookup_limit * most)
due_bytes_most run port limit rule most steps in_order keys short legal =
    let ds = decisions run port steps in
    let each = All_from-Among (λ (d : Decision). bytes d ≤ lookup_limit * most) ds (λ d m. bytes_le d) in
    let a = sum_by-le bytes (lookup_limit * most) ds each in
    let b = times_le (length ds) (length (frames_of run port)) (lookup_limit * most) (few_decisions run port limit steps in_order keys legal) in
    omega (arith, a, b)
  where
    bytes : Decision → ℕ
    bytes d = visits_of run port rule d * length (frame_at run port d.place).bytes

    bytes_le : (d : Decision) → visits_of run port rule d * length (frame_at run port d.place).bytes ≤ lookup_limit * most
    bytes_le d =
        times_le_both (visits_of run port rule d) lookup_limit (length (frame_at run port d.place).bytes) most
        (visited_le run port rule d) (frame_le (frames_of run port) (d.place - 1) most short)
