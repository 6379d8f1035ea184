-- What is known of the capture of a file.
use Rattle.std.proofs.Common.{◌≡◌, ℕ, zero, suc, ◌≤◌, Bool, true, false, List, [], ◌∷◌, length, Option, Some, None, refl, sym, ap, ◌∙◌, arith}
use Rattle.std.specs.Prelude.{◌==◌, Ok, Err, IsOk}
use Rattle.spec_pcap.specs.declared.format.Format.{Format}
use Rattle.spec_pcap.specs.declared.fault.PcapFault.{PcapFault}
use Rattle.spec_pcap.specs.Pcap.{Frame, preceded, captured, frames_from, record_frame, record_fault, record_end, header_length, format_of, capture_of}
use Rattle.pcap_files.specs.Records.{count_of}
use Rattle.pcap_files.proofs.reader.Walk.{Walked, frames_from-end, frames_from-full, frames_from-faulty, frames_from-record}

-- ---- the room that frames need

module _ (format : Format) (bytes : List ℕ) where
  abbrev walk : ℕ → ℕ → Walked
  walk room at = frames_from format room bytes at

  -- Frames that were read had room, and need no more than their number.
  abbrev Fits : ℕ → ℕ → List Frame → Type 0
  Fits room at frames = (walk (length frames) at ≡ Ok frames) × (length frames ≤ room)

  -- Whatever is read from an offset fits.
  abbrev AllFit : ℕ → ℕ → Type 0
  AllFit room at = (frames : List Frame) → walk room at ≡ Ok frames → Fits room at frames

  at_end : (room at : ℕ) → (at == length bytes) ≡ true → AllFit room at
  at_end room at end frames read =
      let nil : frames ≡ [] = cc (frames_from-end format bytes room at end) in
      rw nil (frames_from-end format bytes 0 at end, omega arith)

  at_record : (room at : ℕ) → (at == length bytes) ≡ false → record_fault format bytes at ≡ None → AllFit room (record_end format bytes at)
      → AllFit (suc room) at
  at_record room at more whole fits frames read =
      by_rest (walk room (record_end format bytes at)) refl (sym read ∙ frames_from-record format bytes room at more whole)
    where
      by_rest : (rest : Walked) → walk room (record_end format bytes at) ≡ rest → Ok frames ≡ preceded (record_frame format bytes at) None rest
          → Fits (suc room) at frames
      by_rest (Err fault) is e = absurd (cc)
      by_rest (Ok others) is e =
          let all : frames ≡ record_frame format bytes at ∷ others = cc in
          let others_fit = fits others is in
          let again = frames_from-record format bytes (length others) at more whole in
          rw all (again ∙ ap (preceded (record_frame format bytes at) None) others_fit.0, omega (arith, others_fit.1))

  pub frames_from-fits : (room at : ℕ) → AllFit room at
  frames_from-fits zero at = by_end (at == length bytes) refl
    where
      by_end : (test : Bool) → (at == length bytes) ≡ test → AllFit zero at
      by_end true end = at_end zero at end
      by_end false more = λ frames read. absurd (cc (frames_from-full format bytes at more))
  frames_from-fits (suc room) at = by_tests (at == length bytes) (record_fault format bytes at) refl refl (frames_from-fits room (record_end format bytes at))
    where
      by_tests : (test : Bool) (found : Option PcapFault) → (at == length bytes) ≡ test → record_fault format bytes at ≡ found
          → AllFit room (record_end format bytes at) → AllFit (suc room) at
      by_tests true found end is fits = at_end (suc room) at end
      by_tests false (Some fault) more is fits = λ frames read. absurd (cc (frames_from-faulty format bytes room at fault more is))
      by_tests false None more is fits = at_record room at more is fits

  -- Frames that were counted are found again in as much room as they need.
  pub record Found (room at count : ℕ) : Type 0 where
    pub same : frames_from format count bytes at ≡ frames_from format room bytes at
    pub some : IsOk (frames_from format count bytes at)

  pub frames_from-found : (room at count : ℕ) → Ok count ≡ count_of (frames_from format room bytes at) → Found room at count
  frames_from-found room at count counted = by_read (walk room at) refl counted
    where
      by_read : (read : Walked) → walk room at ≡ read → Ok count ≡ count_of read → Found room at count
      by_read (Err fault) is e = absurd (cc)
      by_read (Ok frames) is e =
          let number : count ≡ length frames = cc in
          let fits = frames_from-fits room at frames is in
          record { same = rw number (fits.0 ∙ sym is); some = rw (number, fits.0) refl }

-- ---- the capture, by its header and the frames after it

module _ (room : ℕ) (bytes : List ℕ) where
  pub capture_of-no_format : (fault : PcapFault) → format_of bytes ≡ Err fault → capture_of room bytes ≡ Err fault
  unfolding capture_of
  capture_of-no_format fault is = rw is refl

  pub capture_of-frames : (format : Format) (read : Walked) → format_of bytes ≡ Ok format
      → frames_from format room bytes header_length ≡ read → capture_of room bytes ≡ captured format.nanos read
  unfolding capture_of
  capture_of-frames format read there is = rw (there, is) refl

  pub capture_of-no_count : (format : Format) (fault : PcapFault) → format_of bytes ≡ Ok format
      → Err fault ≡ count_of (frames_from format room bytes header_length) → capture_of room bytes ≡ Err fault
  capture_of-no_count format fault there none = by_read (frames_from format room bytes header_length) refl none
    where
      by_read : (read : Walked) → frames_from format room bytes header_length ≡ read → Err fault ≡ count_of read
          → capture_of room bytes ≡ Err fault
      by_read (Err other) is e =
          let same : other ≡ fault = cc in
          rw (← same) (capture_of-frames format (Err other) there is)
      by_read (Ok frames) is e = absurd (cc)

  pub capture_of-counted : (format : Format) (count : ℕ) → format_of bytes ≡ Ok format
      → Ok count ≡ count_of (frames_from format room bytes header_length) → IsOk (capture_of room bytes)
  capture_of-counted format count there counted = by_read (frames_from format room bytes header_length) refl counted
    where
      by_read : (read : Walked) → frames_from format room bytes header_length ≡ read → Ok count ≡ count_of read → IsOk (capture_of room bytes)
      by_read (Err fault) is e = absurd (cc)
      by_read (Ok frames) is e = rw (capture_of-frames format (Ok frames) there is) refl

  pub frames_fit : (format : Format) (frames : List Frame) → frames_from format room bytes header_length ≡ Ok frames → length frames ≤ room
  frames_fit format frames is = (frames_from-fits format bytes room header_length frames is).1
