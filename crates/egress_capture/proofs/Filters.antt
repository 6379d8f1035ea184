-- What a filter without the bit of a port says.
use Rattle.std.proofs.Common.{◌≡◌, ℕ, ◌+◌, ◌^◌, false, bit_or, List, [], ◌∷◌, All, refl, sym, ◌∙◌, inl, inr, arith}
use Rattle.std.specs.Prelude.{◌==◌, cond, count_by, max}
use Rattle.std.specs.Int.{bit_at}
use Rattle.std.proofs.lemmas.Bool.{cases_Bool, eqb-true}
use Rattle.std.proofs.lemmas.Nat.Bits.{bit_at_or, bit_at-pow_same}
use Rattle.std.proofs.lemmas.List.Elements.{All-head, All-tail}
use Rattle.std.proofs.lemmas.List.Sums.{sum_by-cons}
use Rattle.spec_actions.specs.declared.action.DpAction.{DpAction}
use Rattle.egress_capture.specs.Sending.{sends_to, frames_to}
use Rattle.egress_capture.specs.Filters.{bit_of}
use Rattle.egress_capture.proofs.Sends.{out_none}

module _ (port : ℕ) where
  -- the action doesn't send to the port
  abbrev pub Passes : DpAction → Type 0
  Passes a = sends_to port a ≡ false

  -- how often it does
  abbrev times : DpAction → ℕ
  times a = cond (sends_to port a) 1 0

  none_counted : (actions : List DpAction) → All Passes actions → count_by (sends_to port) actions ≡ 0
  none_counted [] all = refl
  none_counted (a ∷ actions) all =
      let one : times a ≡ 0 = rw (All-head Passes a actions all) refl in
      let others : count_by (sends_to port) actions ≡ 0 = none_counted actions (All-tail Passes a actions all) in
      let both : times a + count_by (sends_to port) actions ≡ 0 = omega (arith, one, others) in
      sum_by-cons times a actions ∙ both

  -- where no action sends to the port, nothing goes out
  pub passed : (time : ℕ) (actions : List DpAction) (frame : List ℕ) → All Passes actions → frames_to port time actions frame ≡ []
  passed time actions frame all = out_none port time actions frame (none_counted actions all)

-- ---- bits

pub neither : (a b : ℕ) → max a b ≡ 0 → (a ≡ 0) × (b ≡ 0)
neither a b none = (omega (arith, none), omega (arith, none))

-- the bit of an output is that of its port
pub of_output : (n port : ℕ) → bit_at (2 ^ bit_of n) (bit_of port) ≡ 0 → (n == port) ≡ false
of_output n port absent = elim (cases_Bool (n == port)) [
  | inl same ↦
      let there : bit_at (2 ^ bit_of n) (bit_of port) ≡ 1 = rw (← eqb-true n port same) (bit_at-pow_same (bit_of n)) in
      absurd (omega (arith, there, absent))
  | inr other ↦ other
]

-- bits to which that of an output was added
pub with_output : (bits n port : ℕ) → bit_at (bit_or bits (2 ^ bit_of n)) (bit_of port) ≡ 0
    → (bit_at bits (bit_of port) ≡ 0) × ((n == port) ≡ false)
with_output bits n port absent =
    let parts = neither _ _ (sym (bit_at_or bits (2 ^ bit_of n) (bit_of port)) ∙ absent) in (parts.0, of_output n port parts.1)
