-- How many looks and settles a whole journal has.
use Rattle.std.proofs.Common.{◌≡◌, ◌⊎◌, inl, inr, ℕ, zero, suc, ◌+◌, ◌-◌, ◌<◌, ◌≤◌, Bool, true, false, if◌then◌else◌, List, [], ◌∷◌, length, map, count_by, slice_set, All, Option, Some, None, refl, sym, ap, ◌∙◌, arith}
use Rattle.std.specs.Prelude.{slice_index_or}
use Rattle.std.specs.List.{list_all, sum_by}
use Rattle.std.proofs.lemmas.Bool.{and_parts, cases_lt, false≢true}
use Rattle.std.proofs.lemmas.List.Elements.{All-head, All-tail}
use Rattle.std.proofs.lemmas.List.Sums.{sum_by-cons}
use Rattle.spec_actions.specs.declared.action.DpAction.{DpAction}
use Rattle.spec_case.specs.Run.{Run, frames_of}
use Rattle.spec_case.specs.Blocks.{last_block, block_of}
use Rattle.spec_board.specs.declared.looked.Looked.TheVariants.{Exact, Mega, Miss}
use Rattle.spec_board.specs.declared.put_done.PutDone.TheVariants.{Idle, Removed, Kept, Replaced}
use Rattle.spec_board.specs.Steps.{Step, Open, Look, Settle, Begin, Put, End, Present, Full, Installed}
use Rattle.spec_board.specs.State.{Entry, State, Place, Waiting, Pending, Decided, place_at, is_pending, is_decided, pending_count}
use Rattle.spec_board.specs.Results.{key_at, translated, entry_of}
use Rattle.spec_board.specs.Refusals.{settle_fault}
use Rattle.spec_board.specs.Effects.{effect, decided_as}
use Rattle.spec_board.specs.Journals.{Legal, opened, after}
use Rattle.spec_board.specs.Texts.{Journal}
use Rattle.spec_run.specs.Summary.{is_exact, is_mega, is_miss, is_installed, is_present, is_full}
use Rattle.spec_run.specs.Journals.{IsWhole, AreWhole}
use Rattle.board_laws.specs.Places.{ArePlaces}
use Rattle.board_laws.proofs.Journals.{AreLegal, after_all}
use Rattle.board_laws.proofs.Refusals.{may_settle, may_look, may_open}
use Rattle.board_laws.proofs.PlaceLaws.{at_there, waiting_written, pending_written, decided_written, none_pending_yet}
use Rattle.board_laws.proofs.Places.{places_opened, places_keep}
use Rattle.board_laws.proofs.BlockFacts.{place_there}
use Rattle.output_laws.specs.Sums.{AddUp}

-- ---- one step

abbrev one_if : Bool → ℕ
one_if t = if t then 1 else 0

-- whether a step is a look, and whether it is a settle
abbrev looks : Step → ℕ
looks step = one_if (is_exact step) + one_if (is_mega step) + one_if (is_miss step)

abbrev settles : Step → ℕ
settles step = one_if (is_installed step) + one_if (is_present step) + one_if (is_full step)

-- no entry leaves a frame pending
not_pending : (o : Option Entry) → is_pending (decided_as o) ≡ false
not_pending None = refl
not_pending (Some e) = refl

module _ (run : Run) (port limit : ℕ) where
  -- what every step keeps
  record IsKept (s : State) : Type 0 where
    places : ArePlaces run port s
    block : s.block ≤ last_block run
    upto : s.next ≤ length (frames_of run port) + 1

  module _ (s : State) (k : IsKept s) where
    block_keeps : (step : Step) → Legal run port limit s step → (effect run port s step).block ≤ last_block run
    block_keeps (Open block) legal = (may_open run port s block legal).there
    block_keeps (Look place (Exact n)) legal = k.block
    block_keeps (Look place (Mega n)) legal = k.block
    block_keeps (Look place Miss) legal = k.block
    block_keeps (Settle place v (Present n)) legal = k.block
    block_keeps (Settle place v Full) legal = k.block
    block_keeps (Settle place v (Installed n numbers)) legal = k.block
    block_keeps (Begin v) legal = k.block
    block_keeps (Put n v Idle) legal = k.block
    block_keeps (Put n v Removed) legal = k.block
    block_keeps (Put n v Kept) legal = k.block
    block_keeps (Put n v Replaced) legal = k.block
    block_keeps End legal = k.block

    -- a place that may be looked up is one of the trace
    there : (place : ℕ) → (place ≡ s.next) × (block_of run port place ≡ s.block) → place ≤ length (frames_of run port)
    there place may = let block = may.1 in place_there run port place (omega (arith, block, k.block))

    next_step : (step : Step) → (effect run port s step).next ≡ s.next + looks step
    next_step (Open block) = omega arith
    next_step (Look place (Exact n)) = omega arith
    next_step (Look place (Mega n)) = omega arith
    next_step (Look place Miss) = omega arith
    next_step (Settle place v (Present n)) = omega arith
    next_step (Settle place v Full) = omega arith
    next_step (Settle place v (Installed n numbers)) = omega arith
    next_step (Begin v) = omega arith
    next_step (Put n v Idle) = omega arith
    next_step (Put n v Removed) = omega arith
    next_step (Put n v Kept) = omega arith
    next_step (Put n v Replaced) = omega arith
    next_step End = omega arith

    looked_upto : (place : ℕ) → (place ≡ s.next) × (block_of run port place ≡ s.block) → s.next + 1 ≤ length (frames_of run port) + 1
    looked_upto place may = let within = there place may in let turn = may.0 in omega (arith, within, turn)

    upto_keeps : (step : Step) → Legal run port limit s step → (effect run port s step).next ≤ length (frames_of run port) + 1
    upto_keeps (Open block) legal = k.upto
    upto_keeps (Look place (Exact n)) legal = looked_upto place (may_look run port s place legal.0)
    upto_keeps (Look place (Mega n)) legal = looked_upto place (may_look run port s place legal.0)
    upto_keeps (Look place Miss) legal = looked_upto place (may_look run port s place legal.0)
    upto_keeps (Settle place v (Present n)) legal = k.upto
    upto_keeps (Settle place v Full) legal = k.upto
    upto_keeps (Settle place v (Installed n numbers)) legal = k.upto
    upto_keeps (Begin v) legal = k.upto
    upto_keeps (Put n v Idle) legal = k.upto
    upto_keeps (Put n v Removed) legal = k.upto
    upto_keeps (Put n v Kept) legal = k.upto
    upto_keeps (Put n v Replaced) legal = k.upto
    upto_keeps End legal = k.upto

    keeps : (step : Step) → Legal run port limit s step → IsKept (effect run port s step)
    keeps step legal =
        record { places = places_keep run port limit s k.places step legal; block = block_keeps step legal; upto = upto_keeps step legal }

    -- a frame that is looked up becomes pending, or doesn't
    module _ (place : ℕ) (may : (place ≡ s.next) × (block_of run port place ≡ s.block)) where
      first : 1 ≤ place
      first = let turn = may.0 in omega (arith, turn, k.places.from_one)

      last : place ≤ length s.places
      last = let within = there place may in omega (arith, within, k.places.all_places)

      waits : place_at place s ≡ Waiting
      waits = let turn = may.0 in k.places.waiting place (omega (arith, turn))

      hit : (o : Option Entry) → count_by is_pending (slice_set s.places (place - 1) (decided_as o)) + 0 ≡ pending_count s + 0
      hit o =
          let c = waiting_written s.places place (decided_as o) first last waits in
          let none : one_if (is_pending (decided_as o)) ≡ 0 = ap one_if (not_pending o) in
          omega (arith, c, none)

      missed : count_by is_pending (slice_set s.places (place - 1) Pending) + 0 ≡ pending_count s + 1
      missed = let c = pending_written s.places place first last waits in omega (arith, c)

    settled : (place v : ℕ) (actions : List DpAction) → settle_fault run s place v ≡ None
        → count_by is_pending (slice_set s.places (place - 1) (Decided v actions)) + 1 ≡ pending_count s + 0
    settled place v actions legal = let c = decided_written s.places place v actions (may_settle run s place v legal).pending in omega (arith, c)

    pending_step : (step : Step) → Legal run port limit s step
        → pending_count (effect run port s step) + settles step ≡ pending_count s + one_if (is_miss step)
    pending_step (Open block) legal = refl
    pending_step (Look place (Exact n)) legal = hit place (may_look run port s place legal.0) (entry_of n s.entries)
    pending_step (Look place (Mega n)) legal = hit place (may_look run port s place legal.0) (entry_of n s.entries)
    pending_step (Look place Miss) legal = missed place (may_look run port s place legal.0)
    pending_step (Settle place v (Present n)) legal = settled place v (translated run v (key_at run port place)).actions legal.0
    pending_step (Settle place v Full) legal = settled place v (translated run v (key_at run port place)).actions legal.0
    pending_step (Settle place v (Installed n numbers)) legal = settled place v (translated run v (key_at run port place)).actions legal.0
    pending_step (Begin v) legal = refl
    pending_step (Put n v Idle) legal = refl
    pending_step (Put n v Removed) legal = refl
    pending_step (Put n v Kept) legal = refl
    pending_step (Put n v Replaced) legal = refl
    pending_step End legal = refl

  -- ---- all steps

  -- what steps come to, from a state on
  record Counts (s : State) (steps : List Step) : Type 0 where
    kept : IsKept (after_all run port s steps)
    looked : (after_all run port s steps).next ≡ s.next + (count_by is_exact steps + count_by is_mega steps + count_by is_miss steps)
    left : pending_count (after_all run port s steps) + (count_by is_installed steps + count_by is_present steps + count_by is_full steps)
        ≡ pending_count s + count_by is_miss steps

  counts : (s : State) (steps : List Step) → IsKept s → AreLegal run port limit s steps → Counts s steps
  counts s [] k legal = record { kept = k; looked = omega arith; left = refl }
  counts s (step ∷ steps) k legal =
      let next = effect run port s step in
      let rest = counts next steps (keeps s k step legal.0) legal.1 in
      let more : (test : Step → Bool) → count_by test (step ∷ steps) ≡ one_if (test step) + count_by test steps = λ test. sum_by-cons (λ x. one_if (test x)) step steps in
      record {
        kept = rest.kept;
        looked = (
            let here = next_step s k step in
            let so_on = rest.looked in
            omega (arith, here, so_on, more is_exact, more is_mega, more is_miss));
        left = (
            let here = pending_step s k step legal.0 in
            let so_on = rest.left in
            omega (arith, here, so_on, more is_installed, more is_present, more is_full, more is_miss));
      }

-- ---- a whole journal

all_at : {X : Type 0} (p : X → Bool) (xs : List X) (i : ℕ) (d : X) → i < length xs → list_all p xs ≡ true → p (slice_index_or xs i d) ≡ true
all_at p [] i d within all = absurd (omega (arith, within))
all_at p (x ∷ xs) zero d within all = (and_parts (p x) (list_all p xs) all).0
all_at p (x ∷ xs) (suc i) d within all = all_at p xs i d (omega (arith, within)) (and_parts (p x) (list_all p xs) all).1

none_left : (places : List Place) → list_all is_decided places ≡ true → count_by is_pending places ≡ 0
none_left [] all = refl
none_left (p ∷ places) all =
    let parts = and_parts (is_decided p) (list_all is_decided places) all in
    let c = sum_by-cons (λ x. one_if (is_pending x)) p places in
    let here : one_if (is_pending p) ≡ 0 = ap one_if (decided_not p parts.0) in
    let rest = none_left places parts.1 in
    omega (arith, c, here, rest)
  where
    decided_not : (q : Place) → is_decided q ≡ true → is_pending q ≡ false
    decided_not Waiting is = refl
    decided_not Pending is = absurd (false≢true is)
    decided_not (Decided v actions) is = refl

module _ (run : Run) (j : Journal) (whole : IsWhole run j) where
  abbrev pub size : ℕ
  size = length (frames_of run j.port)

  opened_is : IsKept run j.port run.flow_limit (opened run j.port)
  opened_is = record { places = places_opened run j.port; block = omega arith; upto = omega arith }

  come_to : Counts run j.port run.flow_limit (opened run j.port) j.steps
  come_to = counts run j.port run.flow_limit (opened run j.port) j.steps opened_is whole.legal

  -- all places were looked up
  beyond : size + 1 ≤ (after run j.port j.steps).next
  beyond = at (cases_lt (after run j.port j.steps).next (size + 1))
    where
      at : ((after run j.port j.steps).next < size + 1) ⊎ (size + 1 ≤ (after run j.port j.steps).next) → size + 1 ≤ (after run j.port j.steps).next
      at (inr all) = all
      at (inl less) =
          let s = after run j.port j.steps in
          let places = come_to.kept.places in
          let waits = places.waiting s.next (omega arith) in
          let there = at_there s.places s.next places.from_one in
          let decided = all_at is_decided s.places (s.next - 1) Waiting (omega (arith, less, places.all_places, places.from_one)) whole.complete.all_decided in
          absurd (false≢true (sym (ap is_decided (sym there ∙ waits)) ∙ decided))

  pub looks_of : count_by is_exact j.steps + count_by is_mega j.steps + count_by is_miss j.steps ≡ size
  looks_of = let looked = come_to.looked in let upto = come_to.kept.upto in omega (arith, looked, upto, beyond)

  pub settles_of : count_by is_installed j.steps + count_by is_present j.steps + count_by is_full j.steps ≡ count_by is_miss j.steps
  settles_of =
      let left = come_to.left in
      let none = none_left (after run j.port j.steps).places whole.complete.all_decided in
      let at_first = none_pending_yet size in
      omega (arith, left, none, at_first)

-- ---- all journals

three : {X : Type 0} (f g h : X → ℕ) (xs : List X) → sum_by f xs + sum_by g xs + sum_by h xs ≡ sum_by (λ x. f x + g x + h x) xs
three f g h [] = refl
three f g h (x ∷ xs) =
    let a = sum_by-cons f x xs in
    let b = sum_by-cons g x xs in
    let c = sum_by-cons h x xs in
    let d = sum_by-cons (λ x. f x + g x + h x) x xs in
    let rest = three f g h xs in
    omega (arith, a, b, c, d, rest)

sum_same : {X : Type 0} (P : X → Type 0) (f g : X → ℕ) (xs : List X) → All P xs → ((x : X) → P x → f x ≡ g x) → sum_by f xs ≡ sum_by g xs
sum_same P f g [] all same = refl
sum_same P f g (x ∷ xs) all same =
    let a = sum_by-cons f x xs in
    let b = sum_by-cons g x xs in
    let here = same x (All-head P x xs all) in
    let rest = sum_same P f g xs (All-tail P x xs all) same in
    omega (arith, a, b, here, rest)

sum_of_map : {X Y : Type 0} (k : X → Y) (f : Y → ℕ) (xs : List X) → sum_by f (map k xs) ≡ sum_by (λ x. f (k x)) xs
sum_of_map k f [] = refl
sum_of_map k f (x ∷ xs) =
    let a = sum_by-cons f (k x) (map k xs) in
    let b = sum_by-cons (λ x. f (k x)) x xs in
    let rest = sum_of_map k f xs in
    omega (arith, a, b, rest)

abbrev counted : (Step → Bool) → Journal → ℕ
counted test j = count_by test j.steps

pub add_up : (run : Run) (journals : List Journal) → AreWhole run journals → AddUp run journals
add_up run journals whole = record {
  looks =
      three (counted is_exact) (counted is_mega) (counted is_miss) journals
      ∙ sum_same (IsWhole run) (λ j. counted is_exact j + counted is_mega j + counted is_miss j) (λ (j : Journal). length (frames_of run j.port)) journals whole.each (looks_of run)
      ∙ sym (sum_of_map (λ (j : Journal). j.port) (λ port. length (frames_of run port)) journals)
      ∙ ap (sum_by (λ port. length (frames_of run port))) whole.of_ports;
  settles =
      three (counted is_installed) (counted is_present) (counted is_full) journals
      ∙ sum_same (IsWhole run) (λ j. counted is_installed j + counted is_present j + counted is_full j) (counted is_miss) journals whole.each (settles_of run);
}
