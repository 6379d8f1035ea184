-- A walk along the records of a file, from its front to its end.
use Rattle.std.proofs.Common.{◌≡◌, ℕ, zero, suc, ◌-◌, ◌+◌, ◌≤◌, ◌<◌, true, false, List, [], ◌∷◌, ◌++◌, length, Option, Some, None, refl, sym, ap, ◌∙◌, append_assoc, inl, inr, arith}
use Rattle.std.specs.Prelude.{◌==◌, Result, Ok, Err, IsOk}
use Rattle.std.proofs.lemmas.Bool.Decides.{nat_tests}
use Rattle.std.proofs.lemmas.Bool.{ne_eqb, eq-eqb, cases_lt, false≢true}
use Rattle.std.proofs.lemmas.List.{append-nil, map_push}
use Rattle.spec_pcap.specs.declared.format.Format.{Format}
use Rattle.spec_pcap.specs.declared.fault.PcapFault.{PcapFault}
use Rattle.spec_pcap.specs.declared.fault.PcapFault.TheVariants.{TooManyFrames}
use Rattle.spec_pcap.specs.Pcap.{Frame, preceded, frames_from, record_frame, record_fault, record_end, record_header_length}
use Rattle.pcap_files.specs.Records.{frames_at, count_of}

-- the frames of a walk, or the fault that ended it
abbrev pub Walked : Type 0
Walked = Result (List Frame) PcapFault

-- how many frames were passed and are still to come
abbrev pub counted : ℕ → Walked → Result ℕ PcapFault
counted k (Ok frames) = Ok (k + length frames)
counted k (Err fault) = Err fault

pub counted-0 : (walked : Walked) → counted 0 walked ≡ count_of walked
counted-0 (Ok frames) = ap (λ (n : ℕ). let is : Result ℕ PcapFault = Ok n in is) (omega arith)
counted-0 (Err fault) = refl

counted-nil : (k : ℕ) → counted k (Ok []) ≡ Ok k
counted-nil k = ap (λ (n : ℕ). let is : Result ℕ PcapFault = Ok n in is) (omega arith)

counted-preceded : (k : ℕ) (frame : Frame) (walked : Walked) → counted k (preceded frame None walked) ≡ counted (k + 1) walked
counted-preceded k frame (Ok frames) = ap (λ (n : ℕ). let is : Result ℕ PcapFault = Ok n in is) (omega arith)
counted-preceded k frame (Err fault) = refl

-- the frames passed, and those still to come
abbrev pub after_prefix : List Frame → Walked → Walked
after_prefix prefix (Ok frames) = Ok (prefix ++ frames)
after_prefix prefix (Err fault) = Err fault

pub after_prefix-nil : (walked : Walked) → after_prefix [] walked ≡ walked
after_prefix-nil (Ok frames) = refl
after_prefix-nil (Err fault) = refl

after_prefix-preceded : (prefix : List Frame) (frame : Frame) (walked : Walked)
    → after_prefix prefix (preceded frame None walked) ≡ after_prefix (prefix ++ frame ∷ []) walked
after_prefix-preceded prefix frame (Ok frames) =
    ap (λ (all : List Frame). let is : Walked = Ok all in is) (sym (append_assoc prefix (frame ∷ []) frames))
after_prefix-preceded prefix frame (Err fault) = refl

module _ (format : Format) (bytes : List ℕ) where
  abbrev walk : ℕ → ℕ → Walked
  walk room at = frames_from format room bytes at

  -- ---- one step

  -- at the end there are no more frames
  pub frames_from-end : (room at : ℕ) → (at == length bytes) ≡ true → walk room at ≡ Ok []
  unfolding frames_from
  frames_from-end zero at end = rw end refl
  frames_from-end (suc room) at end = rw end refl

  -- before the end, with no room there are too many
  pub frames_from-full : (at : ℕ) → (at == length bytes) ≡ false → walk 0 at ≡ Err TooManyFrames
  unfolding frames_from
  frames_from-full at more = rw more refl

  -- a faulty record ends the walk
  pub frames_from-faulty : (room at : ℕ) (fault : PcapFault) → (at == length bytes) ≡ false → record_fault format bytes at ≡ Some fault
      → walk (suc room) at ≡ Err fault
  unfolding frames_from
  frames_from-faulty room at fault more is = rw (more, is) refl

  -- a whole one gives a frame
  pub frames_from-record : (room at : ℕ) → (at == length bytes) ≡ false → record_fault format bytes at ≡ None
      → walk (suc room) at ≡ preceded (record_frame format bytes at) None (walk room (record_end format bytes at))
  unfolding frames_from
  frames_from-record room at more whole = rw (more, whole) refl

  pub header-within : (at : ℕ) → record_fault format bytes at ≡ None → at + record_header_length ≤ length bytes
  unfolding record_fault
  header-within at whole = grind (arith, nat_tests)

  pub after-within : (at : ℕ) → record_fault format bytes at ≡ None → record_end format bytes at ≤ length bytes
  unfolding record_fault
  after-within at whole = grind (arith, nat_tests)

  -- ---- steps of a loop, which has passed k records and has room for so many in all

  not_at_end : (at : ℕ) → at < length bytes → (at == length bytes) ≡ false
  not_at_end at within = ne_eqb at (length bytes) (λ e. omega arith)

  pub no_room : (room k at : ℕ) → room ≤ k → at < length bytes → walk (room - k) at ≡ Err TooManyFrames
  no_room room k at full within =
      let left : room - k ≡ 0 = omega arith in
      rw left (frames_from-full at (not_at_end at within))

  pub no_record : (room k at : ℕ) (fault : PcapFault) → k < room → at < length bytes → record_fault format bytes at ≡ Some fault
      → walk (room - k) at ≡ Err fault
  no_record room k at fault free within is =
      let left : room - k ≡ suc (room - (k + 1)) = omega arith in
      rw left (frames_from-faulty (room - (k + 1)) at fault (not_at_end at within) is)

  one_more : (room k at : ℕ) → k < room → at < length bytes → record_fault format bytes at ≡ None
      → walk (room - k) at ≡ preceded (record_frame format bytes at) None (walk (room - (k + 1)) (record_end format bytes at))
  one_more room k at free within whole =
      let left : room - k ≡ suc (room - (k + 1)) = omega arith in
      rw left (frames_from-record (room - (k + 1)) at (not_at_end at within) whole)

  -- ---- a loop that counts

  pub counted-record : (room k at : ℕ) → k < room → at < length bytes → record_fault format bytes at ≡ None
      → counted k (walk (room - k) at) ≡ counted (k + 1) (walk (room - (k + 1)) (record_end format bytes at))
  counted-record room k at free within whole =
      ap (counted k) (one_more room k at free within whole) ∙ counted-preceded k (record_frame format bytes at) _

  pub counted-end : (room k at : ℕ) → at ≡ length bytes → counted k (walk room at) ≡ Ok k
  counted-end room k at end = ap (counted k) (frames_from-end room at (eq-eqb at (length bytes) end)) ∙ counted-nil k

  -- ---- a loop that keeps the offsets of whole records

  -- before the end of whole records there is room for one more
  pub has_room : (room k at : ℕ) → at < length bytes → IsOk (walk (room - k) at) → k < room
  has_room room k at within whole =
      elim (cases_lt k room) [
        | inl free ↦ free
        | inr full ↦ absurd (false≢true (rw (no_room room k at full within) at whole))
      ]

  -- and one stands there
  pub has_record : (room k at : ℕ) → at < length bytes → IsOk (walk (room - k) at) → record_fault format bytes at ≡ None
  has_record room k at within whole =
      let free = has_room room k at within whole in
      by_fault (record_fault format bytes at) (λ fault is. false≢true (rw (no_record room k at fault free within is) at whole))
    where
      by_fault : (found : Option PcapFault) → ((fault : PcapFault) → found ≡ Some fault → ⊥) → found ≡ None
      by_fault None _ = refl
      by_fault (Some fault) never = absurd (never fault refl)

  -- and after it whole records stand again
  pub rest_is_whole : (room k at : ℕ) → at < length bytes → IsOk (walk (room - k) at)
      → IsOk (walk (room - (k + 1)) (record_end format bytes at))
  rest_is_whole room k at within whole =
      let free = has_room room k at within whole in
      let there = has_record room k at within whole in
      unmapped _ _ (rw (one_more room k at free within there) at whole)
    where
      unmapped : (frame : Frame) (walked : Walked) → IsOk (preceded frame None walked) → IsOk walked
      unmapped frame (Err fault) ok = ok
      unmapped frame (Ok frames) ok = refl

  pub after_prefix-record : (starts : List ℕ) (room k at : ℕ) → at < length bytes → IsOk (walk (room - k) at)
      → after_prefix (frames_at format bytes starts) (walk (room - k) at)
      ≡ after_prefix (frames_at format bytes (starts ++ at ∷ [])) (walk (room - (k + 1)) (record_end format bytes at))
  after_prefix-record starts room k at within whole =
      let prefix = frames_at format bytes starts in
      let free = has_room room k at within whole in
      let there = has_record room k at within whole in
      rw (map_push (record_frame format bytes) starts at)
      (ap (after_prefix prefix) (one_more room k at free within there) ∙ after_prefix-preceded prefix (record_frame format bytes at) _)

  pub after_prefix-end : (prefix : List Frame) (room at : ℕ) → at ≡ length bytes → after_prefix prefix (walk room at) ≡ Ok prefix
  after_prefix-end prefix room at end =
      ap (after_prefix prefix) (frames_from-end room at (eq-eqb at (length bytes) end))
      ∙ ap (λ (all : List Frame). let is : Walked = Ok all in is) (append-nil prefix)
