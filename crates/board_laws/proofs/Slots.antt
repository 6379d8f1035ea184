-- The slots of the cache: what every step keeps.
use Rattle.std.proofs.Common.{◌≡◌, ℕ, true, ◌⊎◌, inl, inr, sym, ap, ◌∙◌, subst, arith}
use Rattle.spec_keys.specs.Keys.{agree}
use Rattle.spec_case.specs.Run.{Run}
use Rattle.spec_board.specs.declared.looked.Looked.TheVariants.{Exact, Mega, Miss}
use Rattle.spec_board.specs.declared.put_done.PutDone.TheVariants.{Idle, Removed, Kept, Replaced}
use Rattle.spec_board.specs.Steps.{Step, Open, Look, Settle, Begin, Put, End, Present, Full, Installed}
use Rattle.spec_board.specs.State.{Entry, Slot, State}
use Rattle.spec_board.specs.Results.{key_at}
use Rattle.spec_board.specs.Effects.{effect}
use Rattle.spec_board.specs.Journals.{Legal}
use Rattle.table_laws.proofs.MemberLaws.{Among}
use Rattle.board_laws.proofs.NumberLaws.{one_of_number}
use Rattle.board_laws.proofs.Apart.{AreEntriesApart, made_le}
use Rattle.board_laws.proofs.Origins.{IsNew, Was, was, origin}
use Rattle.board_laws.proofs.Hits.{IsSlot, Hits, mega_hits}

module _ (run : Run) (port limit : ℕ) (s : State) (k : AreEntriesApart s) (slots : (x : Slot) → Among x s.slots → IsSlot s x) where
  old_covers : (t : State) (x : Slot) → IsSlot s x → (e : Entry) → ((d : Entry) × Was s e d) ⊎ IsNew run port s t e → e.number ≡ x.entry → agree x.key e.key e.mask ≡ true
  old_covers t x h e (inl (d, w)) q = rw (w.key, w.mask) (h.covers d w.before (sym w.number ∙ q))
  old_covers t x h e (inr w) q = absurd (omega (arith, w.number, q, h.made))

  module _ (step : Step) (legal : Legal run port limit s step) where
    abbrev t : State
    t = effect run port s step

    from : (e : Entry) → Among e t.entries → ((d : Entry) × Was s e d) ⊎ IsNew run port s t e
    from e m = was run port s t e (origin run port limit s k.rising step legal e m)

    old : (x : Slot) → Among x s.slots → IsSlot t x
    old x a = record {
      made = omega (arith, (slots x a).made, made_le run port limit s k step legal);
      covers = λ e m q. old_covers t x (slots x a) e (from e m) q;
    }

  -- the slot that a look writes
  new : (place n : ℕ) (legal : Legal run port limit s (Look place (Mega n))) (x : Slot) → x.key ≡ key_at run port place → x.entry ≡ n
      → IsSlot (effect run port s (Look place (Mega n))) x
  new place n legal x is names = record {
    made = omega (arith, names, h.number, k.made h.entry h.live);
    covers = λ e m q. covered e (from (Look place (Mega n)) legal e m) q;
  }
    where
      h : Hits s (key_at run port place) n
      h = mega_hits s k.rising slots (key_at run port place) n legal.1

      covered : (e : Entry) → ((d : Entry) × Was s e d) ⊎ IsNew run port s (effect run port s (Look place (Mega n))) e → e.number ≡ x.entry
          → agree x.key e.key e.mask ≡ true
      covered e (inl (d, w)) q =
          let same : d ≡ h.entry = one_of_number d h.entry s.entries k.rising w.before h.live (sym w.number ∙ q ∙ names ∙ sym h.number) in
          rw (is, w.key, w.mask) (subst (λ (y : Entry). agree (key_at run port place) y.key y.mask ≡ true) (sym same) h.covers)
      covered e (inr w) q = let l = k.made h.entry h.live in let m = h.number in absurd (omega (arith, w.number, q, names, l, m))

  written : (place n : ℕ) (legal : Legal run port limit s (Look place (Mega n))) (x : Slot)
      → Among x (effect run port s (Look place (Mega n))).slots → IsSlot (effect run port s (Look place (Mega n))) x
  written place n legal x (inl q) = new place n legal x (ap (λ (y : Slot). y.key) q) (ap (λ (y : Slot). y.entry) q)
  written place n legal x (inr a) = old (Look place (Mega n)) legal x a

  pub slots_keep : (step : Step) → Legal run port limit s step → (x : Slot) → Among x (effect run port s step).slots → IsSlot (effect run port s step) x
  slots_keep (Open block) legal = old (Open block) legal
  slots_keep (Look place (Exact n)) legal = old (Look place (Exact n)) legal
  slots_keep (Look place (Mega n)) legal = written place n legal
  slots_keep (Look place Miss) legal = old (Look place Miss) legal
  slots_keep (Settle place v (Present n)) legal = old (Settle place v (Present n)) legal
  slots_keep (Settle place v Full) legal = old (Settle place v Full) legal
  slots_keep (Settle place v (Installed n numbers)) legal = old (Settle place v (Installed n numbers)) legal
  slots_keep (Begin v) legal = old (Begin v) legal
  slots_keep (Put n v Idle) legal = old (Put n v Idle) legal
  slots_keep (Put n v Removed) legal = old (Put n v Removed) legal
  slots_keep (Put n v Kept) legal = old (Put n v Kept) legal
  slots_keep (Put n v Replaced) legal = old (Put n v Replaced) legal
  slots_keep End legal = old End legal
