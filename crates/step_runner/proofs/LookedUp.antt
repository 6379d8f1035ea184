-- What was looked up of a trace.
use Rattle.std.proofs.Common.{◌≡◌, ◌⊎◌, inl, inr, ℕ, ◌+◌, ◌-◌, ◌≤◌, ◌<◌, true, List, length, length-set, slice_set, Option, Some, None, refl, sym, ap, ◌∙◌, subst, arith}
use Rattle.std.specs.Option.{option_and_then}
use Rattle.std.proofs.lemmas.Bool.{cases_eq}
use Rattle.spec_keys.specs.Keys.{agree}
use Rattle.spec_case.specs.Run.{Run}
use Rattle.spec_case.specs.Blocks.{last_place}
use Rattle.spec_board.specs.declared.looked.Looked.TheVariants.{Exact, Mega, Miss}
use Rattle.spec_board.specs.declared.put_done.PutDone.TheVariants.{Idle, Removed, Kept, Replaced}
use Rattle.spec_board.specs.Steps.{Step, Open, Look, Settle, Begin, Put, End, Present, Full, Installed}
use Rattle.spec_board.specs.State.{Entry, State, Place, Waiting, Pending, Decided, place_at, is_pending}
use Rattle.spec_board.specs.Results.{key_at, translated, entry_of, covering, exact_entry, found_by}
use Rattle.spec_board.specs.Cache.{cached}
use Rattle.spec_board.specs.Effects.{effect, decided_as}
use Rattle.spec_board.specs.Journals.{Legal, IsLegal, opened, after}
use Rattle.run_case.specs.Places.{place_before}
use Rattle.board_laws.proofs.Apart.{AreEntriesApart, apart_opened, apart_keeps}
use Rattle.board_laws.proofs.Journals.{kept_along}
use Rattle.board_laws.proofs.ListLaws.{find-some}
use Rattle.board_laws.proofs.NumberLaws.{entry_of-some, entry_of-among}
use Rattle.board_laws.proofs.PlaceLaws.{at, at_written, at_others, pending_from, pending_upto}
use Rattle.board_laws.proofs.Refusals.{may_settle, may_look, may_open}
use Rattle.run_boards.proofs.Places.{place_before-next}

-- The frames of the blocks before were looked up, and a frame that was looked up waits no more.
pub record IsLookedUp (run : Run) (port : ℕ) (s : State) : Type 0 where
  pub past : place_before run port s.block < s.next
  pub looked : s.next ≤ length s.places + 1 → (place : ℕ) → 1 ≤ place → place < s.next → place_at place s ≡ Waiting → ⊥

-- ---- what a look finds is an entry

entry_decides : (n : ℕ) (s : State) (e : Entry) → entry_of n s.entries ≡ Some e → decided_as (entry_of n s.entries) ≡ Waiting → ⊥
entry_decides n s e is waits = let h : Decided e.version e.actions ≡ Waiting = sym (ap decided_as is) ∙ waits in absurd (cc h)

exact_found : (n : ℕ) (o p : Option Entry) → Exact n ≡ found_by o p → (e : Entry) × (o ≡ Some e) × (n ≡ e.number)
exact_found n (Some e) p h = (e, refl, cc h)
exact_found n None (Some e) h = absurd (cc h)
exact_found n None None h = absurd (cc h)

mega_found : (n : ℕ) (o p : Option Entry) → Mega n ≡ found_by o p → (e : Entry) × (p ≡ Some e) × (n ≡ e.number)
mega_found n (Some e) p h = absurd (cc h)
mega_found n None (Some e) h = (e, refl, cc h)
mega_found n None None h = absurd (cc h)

named_is : (n : ℕ) (s : State) (e : Entry) (o : Option ℕ) → option_and_then (λ (m : ℕ). entry_of m s.entries) o ≡ Some e → n ≡ e.number → entry_of n s.entries ≡ Some e
named_is n s e None h is = absurd (cc h)
named_is n s e (Some m) h is = let r = entry_of-some m s.entries e h in ap (λ (k : ℕ). entry_of k s.entries) (is ∙ r.1) ∙ h

exact_decides : (n : ℕ) (key : List ℕ) (s : State) → Exact n ≡ found_by (exact_entry key s) (covering key s.entries) → decided_as (entry_of n s.entries) ≡ Waiting → ⊥
exact_decides n key s h =
    let r = exact_found n (exact_entry key s) (covering key s.entries) h in
    entry_decides n s r.0 (named_is n s r.0 (cached s.slots key) r.1 r.2)

mega_decides : (n : ℕ) (key : List ℕ) (s : State) → AreEntriesApart s → Mega n ≡ found_by (exact_entry key s) (covering key s.entries) → decided_as (entry_of n s.entries) ≡ Waiting → ⊥
mega_decides n key s apart h =
    let r = mega_found n (exact_entry key s) (covering key s.entries) h in
    let f = find-some (λ (e : Entry). agree key e.key e.mask) s.entries r.0 r.1 in
    entry_decides n s r.0 (ap (λ (k : ℕ). entry_of k s.entries) r.2 ∙ entry_of-among r.0 s.entries apart.rising f.0)

pending_waits_not : Pending ≡ Waiting → ⊥
pending_waits_not h = absurd (cc h)

-- ---- what every step keeps

module _ (run : Run) (port limit : ℕ) (s : State) (apart : AreEntriesApart s) (k : IsLookedUp run port s) where
  same : (t : State) → t.places ≡ s.places → t.next ≡ s.next → t.block ≡ s.block → IsLookedUp run port t
  same t ps n b = record {
    past = subst (λ j. place_before run port j < t.next) (sym b) (let p = k.past in omega (arith, n, p));
    looked = λ within place one before waits. k.looked (let l = ap length ps in omega (arith, within, n, l)) place one (omega (arith, before, n)) (ap (at place) (sym ps) ∙ waits);
  }

  looks : (t : State) (place : ℕ) (p : Place) → t.places ≡ slice_set s.places (place - 1) p → t.block ≡ s.block → t.next ≡ s.next + 1 → place ≡ s.next → (p ≡ Waiting → ⊥)
      → IsLookedUp run port t
  looks t place p ps b n turn written = record {
    past = subst (λ j. place_before run port j < t.next) (sym b) (let q = k.past in omega (arith, n, q));
    looked = λ within other one before waits. by_cases other one before (inside within) (ap (at other) (sym ps) ∙ waits) (cases_eq other place);
  }
    where
      inside : t.next ≤ length t.places + 1 → place ≤ length s.places
      inside within = let l = ap length ps in let m = length-set s.places (place - 1) p in omega (arith, within, n, l, m, turn)

      first : 1 ≤ place
      first = let q = k.past in omega (arith, turn, q)

      by_cases : (other : ℕ) → 1 ≤ other → other < t.next → place ≤ length s.places → at other (slice_set s.places (place - 1) p) ≡ Waiting → (other ≡ place) ⊎ (other ≡ place → ⊥) → ⊥
      by_cases other one before last waits (inl e) = written (sym (at_written s.places place p first last) ∙ ap (λ i. at i (slice_set s.places (place - 1) p)) (sym e) ∙ waits)
      by_cases other one before last waits (inr differ) =
          k.looked (omega (arith, last, turn)) other one (omega (arith, before, n, turn, differ)) (sym (at_others s.places place other p first differ) ∙ waits)

  settles : (t : State) (place : ℕ) (p : Place) → t.places ≡ slice_set s.places (place - 1) p → t.block ≡ s.block → t.next ≡ s.next → is_pending (place_at place s) ≡ true → (p ≡ Waiting → ⊥)
      → IsLookedUp run port t
  settles t place p ps b n pends written = record {
    past = subst (λ j. place_before run port j < t.next) (sym b) (let q = k.past in omega (arith, n, q));
    looked = λ within other one before waits. by_cases other one before (inside within) (ap (at other) (sym ps) ∙ waits) (cases_eq other place);
  }
    where
      inside : t.next ≤ length t.places + 1 → s.next ≤ length s.places + 1
      inside within = let l = ap length ps in let m = length-set s.places (place - 1) p in omega (arith, within, n, l, m)

      by_cases : (other : ℕ) → 1 ≤ other → other < t.next → s.next ≤ length s.places + 1 → at other (slice_set s.places (place - 1) p) ≡ Waiting → (other ≡ place) ⊎ (other ≡ place → ⊥) → ⊥
      by_cases other one before within waits (inl e) =
          written (sym (at_written s.places place p (pending_from s.places place pends) (pending_upto s.places place pends)) ∙ ap (λ i. at i (slice_set s.places (place - 1) p)) (sym e) ∙ waits)
      by_cases other one before within waits (inr differ) =
          k.looked within other one (omega (arith, before, n)) (sym (at_others s.places place other p (pending_from s.places place pends) differ) ∙ waits)

  opens : (block : ℕ) → Legal run port limit s (Open block) → IsLookedUp run port (effect run port s (Open block))
  opens block legal =
      let m = may_open run port s block legal in
      let is : place_before run port block ≡ last_place run port s.block = ap (place_before run port) m.next ∙ place_before-next run port s.block in
      let l = m.looked in
      record { past = omega (arith, is, l); looked = k.looked }

  settled : (v : ℕ) (key : List ℕ) → Decided v (translated run v key).actions ≡ Waiting → ⊥
  settled v key h = absurd (cc h)

  pub looked_up_keeps : (step : Step) → Legal run port limit s step → IsLookedUp run port (effect run port s step)
  looked_up_keeps (Open block) legal = opens block legal
  looked_up_keeps (Look place (Exact n)) legal = looks _ place (decided_as (entry_of n s.entries)) refl refl refl (may_look run port s place legal.0).0 (exact_decides n (key_at run port place) s legal.1)
  looked_up_keeps (Look place (Mega n)) legal = looks _ place (decided_as (entry_of n s.entries)) refl refl refl (may_look run port s place legal.0).0 (mega_decides n (key_at run port place) s apart legal.1)
  looked_up_keeps (Look place Miss) legal = looks _ place Pending refl refl refl (may_look run port s place legal.0).0 pending_waits_not
  looked_up_keeps (Settle place v (Present n)) legal = settles _ place _ refl refl refl (may_settle run s place v legal.0).pending (settled v (key_at run port place))
  looked_up_keeps (Settle place v Full) legal = settles _ place _ refl refl refl (may_settle run s place v legal.0).pending (settled v (key_at run port place))
  looked_up_keeps (Settle place v (Installed n numbers)) legal = settles _ place _ refl refl refl (may_settle run s place v legal.0).pending (settled v (key_at run port place))
  looked_up_keeps (Begin v) legal = same _ refl refl refl
  looked_up_keeps (Put n v Idle) legal = same _ refl refl refl
  looked_up_keeps (Put n v Removed) legal = same _ refl refl refl
  looked_up_keeps (Put n v Kept) legal = same _ refl refl refl
  looked_up_keeps (Put n v Replaced) legal = same _ refl refl refl
  looked_up_keeps End legal = same _ refl refl refl

looked_up_opened : (run : Run) (port : ℕ) → IsLookedUp run port (opened run port)
looked_up_opened run port = record { past = omega arith; looked = λ within place one before waits. absurd (omega (arith, one, before)) }

pub looked_up : (run : Run) (port limit : ℕ) (steps : List Step) → IsLegal run port limit steps → IsLookedUp run port (after run port steps)
looked_up run port limit steps legal =
    (kept_along run port limit (λ (s : State). AreEntriesApart s × IsLookedUp run port s)
    (λ s k step l. (apart_keeps run port limit s k.0 step l, looked_up_keeps run port limit s k.0 k.1 step l))
    (opened run port) (apart_opened run port, looked_up_opened run port) steps legal).1
