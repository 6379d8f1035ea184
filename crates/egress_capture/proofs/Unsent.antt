-- What a filter says that has the bit of none of some ports: nothing goes out at one of them.
use Rattle.std.proofs.Common.{◌≡◌, ℕ, false, List, [], ◌∷◌, None, All, refl, sym, ◌∙◌, inl, inr}
use Rattle.std.specs.Prelude.{◌==◌}
use Rattle.std.specs.Int.{bit_at}
use Rattle.std.proofs.lemmas.Bool.{cases_Bool, false≢true, eqb-true, eq-eqb}
use Rattle.std.proofs.lemmas.List.Elements.{All-head, All-tail}
use Rattle.spec_actions.specs.declared.action.DpAction.{DpAction}
use Rattle.spec_actions.specs.declared.action.DpAction.TheVariants.{Output, PopVlan, PushVlan, Set}
use Rattle.spec_input.specs.Mirrors.{is_among}
use Rattle.egress_capture.specs.Sending.{sends_to_one, first_frame_to, next}
use Rattle.egress_capture.specs.Filters.{bit_of}
use Rattle.egress_capture.proofs.Filters.{Passes}
use Rattle.egress_capture.proofs.First.{passing, none_to_send}

other_way : (n p : ℕ) → (n == p) ≡ false → (p == n) ≡ false
other_way n p other = elim (cases_Bool (p == n)) [
  | inl same ↦ absurd (false≢true (sym other ∙ eq-eqb n p (sym (eqb-true p n same))))
  | inr is ↦ is
]

module _ (bits : ℕ) where
  abbrev pub Absent : ℕ → Type 0
  Absent port = bit_at bits (bit_of port) ≡ 0

  not_among : (n : ℕ) → ((port : ℕ) → Absent port → (n == port) ≡ false) → (ports : List ℕ) → All Absent ports → is_among ports n ≡ false
  not_among n others [] all = refl
  not_among n others (p ∷ ports) all =
      rw (other_way n p (others p (All-head Absent p ports all))) (not_among n others ports (All-tail Absent p ports all))

  unsent : (a : DpAction) → ((port : ℕ) → Absent port → Passes port a) → (ports : List ℕ) → All Absent ports → sends_to_one ports a ≡ false
  unsent (Output n) others ports all = not_among n others ports all
  unsent PopVlan others ports all = refl
  unsent (PushVlan tpid tci) others ports all = refl
  unsent (Set f value mask) others ports all = refl

  module _ (ports : List ℕ) (absent : All Absent ports) (time : ℕ) where
    pub nothing_sent : (actions : List DpAction) (bytes : List ℕ) → ((port : ℕ) → Absent port → All (Passes port) actions)
        → first_frame_to ports time actions bytes ≡ None
    nothing_sent [] bytes passed = none_to_send ports time bytes
    nothing_sent (a ∷ actions) bytes passed =
        let apart : sends_to_one ports a ≡ false = unsent a (λ port is. All-head (Passes port) a actions (passed port is)) ports absent in
        passing ports time a actions bytes apart
        ∙ nothing_sent actions (next a bytes) (λ port is. All-tail (Passes port) a actions (passed port is))
