-- Bits of a number replaced under a mask.
use Rattle.std.proofs.Common.{◌≡◌, ℕ, zero, suc, ◌+◌, ◌-◌, ◌*◌, ◌%◌, ◌^◌, ◌<◌, ◌≤◌, min, bit_and, bit_xor, ◌⊎◌, inl, inr, refl, ap, ◌∙◌, arith}
use Rattle.std.proofs.Math.Nat.{pow-succ'}
use Rattle.std.specs.Int.{bit_at}
use Rattle.std.proofs.lemmas.Nat.{xor_lt}
use Rattle.std.proofs.lemmas.Nat.Bits.{bit_at_and, bit_at_xor, bit_at-lt, bit_at_cat_low, bit_at_cat_high, bit_at-zero, same_from_bits}
use Rattle.std.proofs.lemmas.Bool.{cases_lt}
use Rattle.spec_base.specs.Bits.{merged}
use Rattle.action_exec.specs.declared.shape.Shape.{Shape}
use Rattle.action_exec.specs.declared.shape.Shape.TheVariants.{Byte, TrafficClass, Port, Ipv4Address, EthernetAddress, Ipv6Address}
use Rattle.action_exec.specs.Shapes.{size_of, unit_of}

pub xor-fits : (shape : Shape) (a b : ℕ) → a < 256 ^ size_of shape → b < 256 ^ size_of shape → bit_xor a b < 256 ^ size_of shape
xor-fits Byte a b = xor_lt 8 a b
xor-fits TrafficClass a b = xor_lt 16 a b
xor-fits Port a b = xor_lt 16 a b
xor-fits Ipv4Address a b = xor_lt 32 a b
xor-fits EthernetAddress a b = xor_lt 48 a b
xor-fits Ipv6Address a b = xor_lt 128 a b

positive : (k : ℕ) → 0 < 2 ^ k
positive zero = omega arith
positive (suc k) = let e = pow-succ' 2 k in let h = positive k in omega arith

-- bits of a number that was moved up
shifted-low : (a k i : ℕ) → i < k → bit_at (a * 2 ^ k) i ≡ 0
shifted-low a k i l =
    let e : a * 2 ^ k ≡ a * 2 ^ k + 0 = omega arith in
    ap (λ (z : ℕ). bit_at z i) e ∙ bit_at_cat_low a k 0 i l ∙ bit_at-zero i

shifted-high : (a k i : ℕ) → k ≤ i → bit_at (a * 2 ^ k) i ≡ bit_at a (i - k)
shifted-high a k i l =
    let e : a * 2 ^ k ≡ a * 2 ^ k + 0 = omega arith in
    ap (λ (z : ℕ). bit_at z i) e ∙ bit_at_cat_high a k 0 i (positive k) l

bit-same : (n v m : ℕ) → n < 2 → v < 2 → m < 2 → min ((n + v) % 2) m ≡ min ((n + min v m) % 2) m
bit-same n v m a b c = omega arith

-- of the value only the bits of the mask count
masked-same : (k n v m : ℕ) → bit_and (bit_xor n (v * 2 ^ k)) (m * 2 ^ k) ≡ bit_and (bit_xor n (bit_and v m * 2 ^ k)) (m * 2 ^ k)
masked-same k n v m = same_from_bits _ _ (λ i. by i (cases_lt i k))
  where
    left : (i : ℕ) (w : ℕ) → bit_at (bit_and (bit_xor n (w * 2 ^ k)) (m * 2 ^ k)) i ≡ min ((bit_at n i + bit_at (w * 2 ^ k) i) % 2) (bit_at (m * 2 ^ k) i)
    left i w = bit_at_and (bit_xor n (w * 2 ^ k)) (m * 2 ^ k) i ∙ ap (λ (z : ℕ). min z (bit_at (m * 2 ^ k) i)) (bit_at_xor n (w * 2 ^ k) i)

    by : (i : ℕ) → (i < k) ⊎ (k ≤ i) → bit_at (bit_and (bit_xor n (v * 2 ^ k)) (m * 2 ^ k)) i ≡ bit_at (bit_and (bit_xor n (bit_and v m * 2 ^ k)) (m * 2 ^ k)) i
    by i (inl l) = rw (left i v, left i (bit_and v m), shifted-low v k i l, shifted-low (bit_and v m) k i l) refl
    by i (inr l) =
        rw (left i v, left i (bit_and v m), shifted-high v k i l, shifted-high (bit_and v m) k i l, shifted-high m k i l, bit_at_and v m (i - k))
        (bit-same (bit_at n i) (bit_at v (i - k)) (bit_at m (i - k)) (bit_at-lt n i) (bit_at-lt v (i - k)) (bit_at-lt m (i - k)))

pub merged-masked : (shape : Shape) (n v m : ℕ) →
    merged n (v * unit_of shape) (m * unit_of shape) ≡ bit_xor n (bit_and (bit_xor n (bit_and v m * unit_of shape)) (m * unit_of shape))
merged-masked Byte n v m = ap (bit_xor n) (masked-same 0 n v m)
merged-masked TrafficClass n v m = ap (bit_xor n) (masked-same 4 n v m)
merged-masked Port n v m = ap (bit_xor n) (masked-same 0 n v m)
merged-masked Ipv4Address n v m = ap (bit_xor n) (masked-same 0 n v m)
merged-masked EthernetAddress n v m = ap (bit_xor n) (masked-same 0 n v m)
merged-masked Ipv6Address n v m = ap (bit_xor n) (masked-same 0 n v m)
