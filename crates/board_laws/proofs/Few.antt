-- A board has no more entries than its limit: what every step keeps.
use Rattle.std.proofs.Common.{◌≡◌, ℕ, ◌≤◌, Bool, true, false, not, if◌then◌else◌, List, [], ◌∷◌, ◌++◌, length, map, filter, inl, inr, refl, sym, subst, arith, length-append}
use Rattle.std.proofs.lemmas.List.{length-map}
use Rattle.std.proofs.lemmas.List.Sums.{length-filter, count_by-le-length}
use Rattle.spec_case.specs.Run.{Run, frame_at}
use Rattle.spec_board.specs.declared.looked.Looked.TheVariants.{Exact, Mega, Miss}
use Rattle.spec_board.specs.declared.put_done.PutDone.TheVariants.{Idle, Removed, Kept, Replaced}
use Rattle.spec_board.specs.Steps.{Step, Open, Look, Settle, Begin, Put, End, Present, Full, Installed}
use Rattle.spec_board.specs.State.{Entry, State}
use Rattle.spec_board.specs.Results.{key_at, mask_for, overlaps}
use Rattle.spec_board.specs.Effects.{effect, is_among}
use Rattle.spec_board.specs.Journals.{Legal}
use Rattle.table_laws.proofs.MemberLaws.{Among, Among_in-filter}
use Rattle.board_laws.proofs.NumberLaws.{number_among, Among-is_among}
use Rattle.board_laws.proofs.Origins.{Installs, installs}
use Rattle.board_laws.proofs.Changes.{pay, hit, paid_head, left_by, is_without}

-- what is dropped by numbers is no less than what is dropped by the test
left_le : (p : Entry → Bool) (numbers : List ℕ) (es : List Entry) → ((e : Entry) → Among e es → p e ≡ true → is_among numbers e.number ≡ true)
    → length (left_by numbers es) ≤ length (filter (λ (x : Entry). not (p x)) es)
left_le p numbers [] h = omega arith
left_le p numbers (e ∷ es) h = at (p e) (h e (inl refl)) (is_among numbers e.number) refl (left_le p numbers es (λ d m. h d (inr m)))
  where
    left : List Entry
    left = left_by numbers es

    others : List Entry
    others = filter (λ (x : Entry). not (p x)) es

    at : (t : Bool) → (t ≡ true → is_among numbers e.number ≡ true) → (u : Bool) → is_among numbers e.number ≡ u → length left ≤ length others
        → length (if is_without numbers (pay numbers e) then pay numbers e ∷ left else left) ≤ length (if not t then e ∷ others else others)
    at true g u q ih = rw ((paid_head numbers e).number, g refl) ih
    at false g true q ih = rw ((paid_head numbers e).number, q) (omega (arith, ih))
    at false g false q ih = rw ((paid_head numbers e).number, q) (omega (arith, ih))

module _ (run : Run) (port limit : ℕ) (s : State) (few : length s.entries ≤ limit) where
  mapped : (f : Entry → Entry) → length (map f s.entries) ≤ limit
  mapped f = rw (length-map s.entries f) few

  dropped : (numbers : List ℕ) → length (left_by numbers s.entries) ≤ limit
  dropped numbers =
      let paid = map (pay numbers) s.entries in
      let count = length-filter (is_without numbers) paid in
      omega (arith, count, count_by-le-length (is_without numbers) paid, length-map s.entries (pay numbers), few)

  installed : (place v n : ℕ) (numbers : List ℕ) (e : Entry) → Legal run port limit s (Settle place v (Installed n numbers))
      → length (left_by numbers s.entries ++ e ∷ []) ≤ limit
  installed place v n numbers e legal =
      let left = left_le overlapped numbers s.entries covered in
      let more = length-append (left_by numbers s.entries) (e ∷ []) in
      omega (arith, left, more, h.room)
    where
      key : List ℕ
      key = key_at run port place

      overlapped : Entry → Bool
      overlapped = overlaps key (mask_for run v key)

      h : Installs limit key (mask_for run v key) s n numbers
      h = installs run port limit s place v n numbers legal

      covered : (d : Entry) → Among d s.entries → overlapped d ≡ true → is_among numbers d.number ≡ true
      covered d m o =
          let among = number_among d (filter overlapped s.entries) (Among_in-filter overlapped d s.entries m o) in
          Among-is_among numbers d.number (subst (λ (ns : List ℕ). Among d.number ns) (sym h.dropped) among)

  pub few_keep : (step : Step) → Legal run port limit s step → length (effect run port s step).entries ≤ limit
  few_keep (Open block) legal = few
  few_keep (Look place (Exact n)) legal = mapped (hit n (frame_at run port place))
  few_keep (Look place (Mega n)) legal = mapped (hit n (frame_at run port place))
  few_keep (Look place Miss) legal = few
  few_keep (Settle place v (Present n)) legal = few
  few_keep (Settle place v Full) legal = few
  few_keep (Settle place v (Installed n numbers)) legal = installed place v n numbers _ legal
  few_keep (Begin v) legal = few
  few_keep (Put n v Idle) legal = dropped (n ∷ [])
  few_keep (Put n v Removed) legal = dropped (n ∷ [])
  few_keep (Put n v Kept) legal = rw (length-map (map (pay (n ∷ [])) s.entries) _) (mapped (pay (n ∷ [])))
  few_keep (Put n v Replaced) legal = rw (length-map (map (pay (n ∷ [])) s.entries) _) (mapped (pay (n ∷ [])))
  few_keep End legal = few
