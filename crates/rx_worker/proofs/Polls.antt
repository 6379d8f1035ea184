-- Upcalls that were taken one after the other.
use Rattle.std.proofs.Common.{◌≡◌, ℕ, suc, Bool, true, false, if◌then◌else◌, ◌+◌, ◌<◌, ◌≤◌, inl, inr, List, [], ◌∷◌, ◌++◌, length-append, append_assoc, refl, sym, ap, ◌∙◌, arith}
use Rattle.std.proofs.lemmas.Bool.{cases_lt}
use Rattle.std.proofs.lemmas.List.{append-nil}
use Rattle.spec_base.specs.Counts.{Rose}
use Rattle.upcall_queue.specs.declared.upcalls.upcall.Upcall.{Upcall}
use Rattle.rx_worker.specs.Batches.{is_missed, misses_before}
use Rattle.rx_worker.specs.Polls.{AreUpcalls, Took}

AreUpcalls-le : (port from to : ℕ) (upcalls : List Upcall) → AreUpcalls port from to upcalls → from ≤ to
AreUpcalls-le port from to [] h = h
AreUpcalls-le port from to (u ∷ upcalls) h = omega (arith, h.1, AreUpcalls-le port (u.place + 1) to upcalls h.2)

later : (port low from to : ℕ) (upcalls : List Upcall) → low ≤ from → AreUpcalls port from to upcalls → AreUpcalls port low to upcalls
later port low from to [] le h = omega (arith, le, h)
later port low from to (u ∷ upcalls) le h = (h.0, omega (arith, le, h.1), h.2)

AreUpcalls-append : (port from between to : ℕ) (xs ys : List Upcall) → AreUpcalls port from between xs → AreUpcalls port between to ys → AreUpcalls port from to (xs ++ ys)
AreUpcalls-append port from between to [] ys h k = later port from between to ys h k
AreUpcalls-append port from between to (u ∷ xs) ys h k = (h.0, h.1, AreUpcalls-append port (u.place + 1) between to xs ys h.2 k)

pub took_none : (port from : ℕ) (before : List Upcall) → Took port from from before 0 before
took_none port from before = record { upcalls = []; in_order = omega arith; counted = refl; taken = sym (append-nil before) }

pub took_more : (port from between to m n : ℕ) (before meanwhile after : List Upcall) → Took port from between before m meanwhile → Took port between to meanwhile n after
    → Took port from to before (m + n) after
took_more port from between to m n before meanwhile after first second = record {
  upcalls = first.upcalls ++ second.upcalls;
  in_order = AreUpcalls-append port from between to first.upcalls second.upcalls first.in_order second.in_order;
  counted = omega (arith, first.counted, second.counted, length-append first.upcalls second.upcalls);
  taken = second.taken ∙ ap (λ xs. xs ++ second.upcalls) first.taken ∙ append_assoc before first.upcalls second.upcalls;
}

-- a count that rose in one of two turns rose
pub rose_either : (a b c m n : ℕ) → a ≤ b → b ≤ c → (0 < m → Rose a b) → (0 < n → Rose b c) → 0 < m + n → Rose a c
rose_either a b c m n ab bc first second some =
    elim (cases_lt 0 n) [
      | inl more ↦ (let rose = second more in omega (arith, ab, rose))
      | inr none ↦ (let rose = first (omega (arith, some, none)) in omega (arith, bc, rose))
    ]

-- ---- how many were missed

one_at_most : (missed : Bool) → (if missed then 1 else 0) ≤ 1
one_at_most true = omega arith
one_at_most false = omega arith

pub few_more : (turn given refused more less : ℕ) (missed : Bool) → given + refused ≤ turn → more + less ≡ (if missed then 1 else 0) → given + more + (refused + less) ≤ turn + 1
few_more turn given refused more less missed few one = omega (arith, few, one, one_at_most missed)

pub each_more : (bits turn given refused more less : ℕ) (missed : Bool) → given + refused ≡ misses_before bits turn → more + less ≡ (if missed then 1 else 0) → missed ≡ is_missed bits turn
    → given + more + (refused + less) ≡ misses_before bits (turn + 1)
each_more bits turn given refused more less missed each one is =
    let next : turn + 1 ≡ suc turn = omega arith in
    let bit = ap {B = ℕ} (λ (t : Bool). if t then 1 else 0) is in
    rw next (omega (arith, each, one, bit))
