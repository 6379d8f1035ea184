-- Frames of bytes, and the numbers that are read of them.
use Rattle.std.proofs.Common.{◌≡◌, ℕ, zero, suc, ◌+◌, ◌-◌, ◌/◌, ◌^◌, ◌<◌, ◌≤◌, List, length, slice_index, ◌⊎◌, inl, inr, subst, arith}
use Rattle.std.proofs.Math.Nat.{mul-le-mul_right, pow-succ'}
use Rattle.std.proofs.lemmas.Bool.{cases_lt}
use Rattle.std.proofs.lemmas.List.{get_or_past}
use Rattle.std.proofs.lemmas.List.Elements.{All-get_or, All-from_get_or}
use Rattle.std.proofs.lemmas.Nat.{mod_below}
use Rattle.spec_base.specs.Bytes.{big_endian, big_endian_at}
use Rattle.spec_exec.specs.Writing.{with_number}
use Rattle.exec_laws.specs.ReadBack.{AreBytes}
use Rattle.exec_laws.proofs.Replacing.{byte_at-is, with_number-before, with_number-after, with_number-in}

-- each place of a frame of bytes has a byte, those after its end too
abbrev pub EachByte : List ℕ → Type 0
EachByte frame = (at : ℕ) → slice_index frame at < 256

pub byte : (frame : List ℕ) → AreBytes frame → EachByte frame
byte frame bytes at = by (cases_lt at (length frame))
  where
    by : (at < length frame) ⊎ (length frame ≤ at) → slice_index frame at < 256
    by (inl l) = All-get_or (λ byte. byte < 256) frame at 0 l bytes
    by (inr l) = rw (get_or_past frame at 0 l) (omega arith)

pub are-bytes : (frame : List ℕ) → EachByte frame → AreBytes frame
are-bytes frame each = All-from_get_or (λ byte. byte < 256) frame 0 (λ at l. each at)

pub big_endian_at-lt : (frame : List ℕ) → AreBytes frame → (n at : ℕ) → big_endian_at n frame at < 256 ^ n
unfolding big_endian_at
big_endian_at-lt frame bytes zero at = omega arith
big_endian_at-lt frame bytes (suc n) at =
    let first = mul-le-mul_right (256 ^ n) (below (slice_index frame at) (byte frame bytes at)) in
    let rest = big_endian_at-lt frame bytes n (at + 1) in
    let power = pow-succ' 256 n in
    omega arith
  where
    below : (b : ℕ) → b < 256 → b ≤ 255
    below b l = omega arith

pub word-lt : (frame : List ℕ) → EachByte frame → (at : ℕ) → big_endian_at 2 frame at < 65536
unfolding big_endian_at
word-lt frame bytes at = let a = bytes at in let b = bytes (at + 1) in omega arith

-- ---- numbers that are put

pub byte-of-number : (n v : ℕ) → EachByte (big_endian n v)
byte-of-number zero v i = omega arith
byte-of-number (suc n) v zero = rw (byte_at-is n v) (mod_below (v / 256 ^ n) 256 (omega arith))
byte-of-number (suc n) v (suc i) = byte-of-number n v i

pub with_number-bytes : (n : ℕ) (bytes : List ℕ) (at v : ℕ) → at + n ≤ length bytes → EachByte bytes → EachByte (with_number n bytes at v)
with_number-bytes n bytes at v fits are i = by (cases_lt i at) (cases_lt i (at + n))
  where
    by : (i < at) ⊎ (at ≤ i) → (i < at + n) ⊎ (at + n ≤ i) → slice_index (with_number n bytes at v) i < 256
    by (inl l) other = rw (with_number-before n bytes at v fits i l) (are i)
    by (inr l) (inl m) =
        let e : at + (i - at) ≡ i = omega arith in
        subst (λ (z : ℕ). slice_index (with_number n bytes at v) z < 256) e (rw (with_number-in n bytes at v fits (i - at) (omega arith)) (byte-of-number n v (i - at)))
    by (inr l) (inr m) = rw (with_number-after n bytes at v fits i m) (are i)
