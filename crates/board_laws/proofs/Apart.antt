-- Entries have rising numbers and are apart: what every step keeps.
use Rattle.std.proofs.Common.{◌≡◌, ℕ, ◌<◌, ◌≤◌, false, List, [], ◌∷◌, ◌++◌, map, ◌⊎◌, inl, inr, sym, ◌∙◌, subst, arith}
use Rattle.spec_keys.specs.Keys.{overlap}
use Rattle.spec_xlate.specs.Translation.{Translation}
use Rattle.spec_pcap.specs.Pcap.{Frame}
use Rattle.spec_case.specs.Run.{Run, frame_at}
use Rattle.spec_board.specs.declared.looked.Looked.TheVariants.{Exact, Mega, Miss}
use Rattle.spec_board.specs.declared.put_done.PutDone.TheVariants.{Idle, Removed, Kept, Replaced}
use Rattle.spec_board.specs.Steps.{Step, Open, Look, Settle, Begin, Put, End, Present, Full, Installed}
use Rattle.spec_board.specs.State.{Entry, State}
use Rattle.spec_board.specs.Results.{numbers_of}
use Rattle.spec_board.specs.Effects.{effect}
use Rattle.spec_board.specs.Journals.{Legal, opened}
use Rattle.table_laws.proofs.MemberLaws.{Among}
use Rattle.board_laws.proofs.NumberLaws.{Rising, rising_push, rising_filter, numbers_of-append, among_number}
use Rattle.board_laws.proofs.KeyFacts.{apart-sym}
use Rattle.board_laws.proofs.Changes.{pay, hit, left_by, renewed_by, is_without, numbers-hit, numbers-paid, numbers-renewed, left_number}
use Rattle.board_laws.proofs.Origins.{IsNew, Was, was, origin, installs}

pub record AreEntriesApart (s : State) : Type 0 where
  pub rising : Rising (numbers_of s.entries)
  pub from_one : (e : Entry) → Among e s.entries → 1 ≤ e.number
  pub made : (e : Entry) → Among e s.entries → e.number ≤ s.made
  pub disjoint : (e f : Entry) → Among e s.entries → Among f s.entries → (e.number ≡ f.number → ⊥) → overlap e.key e.mask f.key f.mask ≡ false

pub apart_opened : (run : Run) (port : ℕ) → AreEntriesApart (opened run port)
apart_opened run port = record { rising = tt; from_one = λ e m. absurd m; made = λ e m. absurd m; disjoint = λ e f m. absurd m }

module _ (run : Run) (port limit : ℕ) (s : State) (k : AreEntriesApart s) where
  pub made_le : (step : Step) → Legal run port limit s step → s.made ≤ (effect run port s step).made
  made_le (Open block) legal = omega arith
  made_le (Look place (Exact n)) legal = omega arith
  made_le (Look place (Mega n)) legal = omega arith
  made_le (Look place Miss) legal = omega arith
  made_le (Settle place v (Present n)) legal = omega arith
  made_le (Settle place v Full) legal = omega arith
  made_le (Settle place v (Installed n numbers)) legal = omega (arith, (installs run port limit s place v n numbers legal).number)
  made_le (Begin v) legal = omega arith
  made_le (Put n v Idle) legal = omega arith
  made_le (Put n v Removed) legal = omega arith
  made_le (Put n v Kept) legal = omega arith
  made_le (Put n v Replaced) legal = omega arith
  made_le End legal = omega arith

  hit_rising : (n : ℕ) (frame : Frame) → Rising (numbers_of (map (hit n frame) s.entries))
  hit_rising n frame = subst Rising (sym (numbers-hit n frame s.entries)) k.rising

  left_rising : (numbers : List ℕ) → Rising (numbers_of (left_by numbers s.entries))
  left_rising numbers = rising_filter (is_without numbers) (map (pay numbers) s.entries) (subst Rising (sym (numbers-paid numbers s.entries)) k.rising)

  renewed_rising : (n v : ℕ) (t : Translation) → Rising (numbers_of (renewed_by n v t s.entries))
  renewed_rising n v t = subst Rising (sym (numbers-renewed n v t s.entries)) k.rising

  pushed_rising : (numbers : List ℕ) (e : Entry) → s.made < e.number → Rising (numbers_of (left_by numbers s.entries ++ e ∷ []))
  pushed_rising numbers e l =
      subst Rising (sym (numbers_of-append (left_by numbers s.entries) e))
      (rising_push (numbers_of (left_by numbers s.entries)) e.number (left_rising numbers) (λ m a. below m (left_number numbers s.entries m a)))
    where
      below : (m : ℕ) → Among m (numbers_of s.entries) → m < e.number
      below m a = let r = among_number m s.entries a in let h = k.made r.0 r.1 in let q = r.2 in omega (arith, h, q, l)

  rising_keeps : (step : Step) → Legal run port limit s step → Rising (numbers_of (effect run port s step).entries)
  rising_keeps (Open block) legal = k.rising
  rising_keeps (Look place (Exact n)) legal = hit_rising n (frame_at run port place)
  rising_keeps (Look place (Mega n)) legal = hit_rising n (frame_at run port place)
  rising_keeps (Look place Miss) legal = k.rising
  rising_keeps (Settle place v (Present n)) legal = k.rising
  rising_keeps (Settle place v Full) legal = k.rising
  rising_keeps (Settle place v (Installed n numbers)) legal = pushed_rising numbers _ (omega (arith, (installs run port limit s place v n numbers legal).number))
  rising_keeps (Begin v) legal = k.rising
  rising_keeps (Put n v Idle) legal = left_rising (n ∷ [])
  rising_keeps (Put n v Removed) legal = left_rising (n ∷ [])
  rising_keeps (Put n v Kept) legal = renewed_rising n v _
  rising_keeps (Put n v Replaced) legal = renewed_rising n v _
  rising_keeps End legal = k.rising

  from_one_keeps : (t : State) (e : Entry) → ((d : Entry) × Was s e d) ⊎ IsNew run port s t e → 1 ≤ e.number
  from_one_keeps t e (inl (d, h)) = omega (arith, h.number, k.from_one d h.before)
  from_one_keeps t e (inr h) = omega (arith, h.number)

  made_keeps : (t : State) → s.made ≤ t.made → (e : Entry) → ((d : Entry) × Was s e d) ⊎ IsNew run port s t e → e.number ≤ t.made
  made_keeps t l e (inl (d, h)) = omega (arith, l, h.number, k.made d h.before)
  made_keeps t l e (inr h) = omega (arith, h.number, h.made)

  disjoint_keeps : (t : State) (e f : Entry) → Among e t.entries → Among f t.entries
      → ((d : Entry) × Was s e d) ⊎ IsNew run port s t e → ((d : Entry) × Was s f d) ⊎ IsNew run port s t f
      → (e.number ≡ f.number → ⊥) → overlap e.key e.mask f.key f.mask ≡ false
  disjoint_keeps t e f me mf (inl (d, h)) (inl (c, g)) differ =
      rw (h.key, h.mask, g.key, g.mask) (k.disjoint d c h.before g.before (λ q. differ (h.number ∙ q ∙ sym g.number)))
  disjoint_keeps t e f me mf (inl (d, h)) (inr g) differ = apart-sym f.key f.mask e.key e.mask (g.apart e me (λ q. differ (sym q)))
  disjoint_keeps t e f me mf (inr h) g differ = h.apart f mf differ

  pub apart_keeps : (step : Step) → Legal run port limit s step → AreEntriesApart (effect run port s step)
  apart_keeps step legal = record {
    rising = rising_keeps step legal;
    from_one = λ e m. from_one_keeps _ e (from e m);
    made = λ e m. made_keeps _ (made_le step legal) e (from e m);
    disjoint = λ e f me mf. disjoint_keeps _ e f me mf (from e me) (from f mf);
  }
    where
      from : (e : Entry) → Among e (effect run port s step).entries → ((d : Entry) × Was s e d) ⊎ IsNew run port s (effect run port s step) e
      from e m = was run port s (effect run port s step) e (origin run port limit s k.rising step legal e m)
