-- What a write does to the checksum of a transport header, field by field.
use Rattle.std.proofs.Common.{◌≡◌, ℕ, ◌+◌, ◌*◌, ◌<◌, ◌≤◌, Bool, true, false, List, [], ◌++◌, None, ◌⊎◌, inl, inr, refl, ap, arith}
use Rattle.spec_keys.specs.declared.field_id.FieldId.{FieldId}
use Rattle.spec_keys.specs.declared.field_id.FieldId.TheVariants.{DlSrc, DlDst, NwSrc, NwDst, Ipv6Src, Ipv6Dst, NwTos, NwTtl, TpSrc, TpDst}
use Rattle.spec_frames.specs.declared.layout.Layout.{Layout}
use Rattle.spec_frames.specs.declared.layout.L3.{L3}
use Rattle.spec_frames.specs.declared.layout.L3.TheVariants.{Ipv4, Ipv6}
use Rattle.spec_frames.specs.declared.layout.L4.{L4}
use Rattle.spec_frames.specs.Ethernet.{header_size}
use Rattle.spec_exec.specs.Places.{whole, port_at, place_in, Zero, Plain, Sum, sum, port_sum, address_sum, sums_of}
use Rattle.frame_laws.specs.Headers.{FollowsType}
use Rattle.exec_laws.specs.Elsewhere.{IsOutside, IsNoSum}
use Rattle.exec_laws.proofs.checksums.Writes.{Check, Follows, Write}

-- ---- checksums by the pseudo header

-- where the addresses of an IP header begin, of which so many words are part of it
abbrev pub addresses_at : L3 → ℕ
addresses_at (Ipv4 at) = at + 12
addresses_at (Ipv6 at) = at + 8
addresses_at other = 0

-- The checksum that stands s bytes after the beginning of a transport header at x, over so many bytes from there on. How
-- many they are is said by two bytes at an offset.
abbrev pub check : L3 → (k x s : ℕ) → Zero → (size told_at : ℕ) → Check
check n k x s z size told_at = record {
  at = x + s;
  zero_says = z;
  header = addresses_at n;
  words = k;
  body = x;
  size = size;
  told_at = told_at;
  told = 2;
}

-- The size is said in the IP header, where no field is, or between the ports and the checksum.
abbrev pub IsTold : L3 → (x s told_at : ℕ) → Type 0
IsTold (Ipv4 at) x s told_at = (told_at ≡ at + 2) ⊎ ((x + 4 ≤ told_at) × (told_at + 2 ≤ x + s))
IsTold (Ipv6 at) x s told_at = (told_at ≡ at + 4) ⊎ ((x + 4 ≤ told_at) × (told_at + 2 ≤ x + s))
IsTold other x s told_at = ⊥

-- a transport header that has no ports, or whose checksum stands after its ports and follows them
abbrev pub Ports : L3 → L4 → (x s : ℕ) → Zero → Type 0
Ports n h x s z =
    ((offset : ℕ) → port_at offset h ≡ None)
    ⊎ (((offset : ℕ) → port_at offset h ≡ whole (x + offset) 1) × (port_sum n h ≡ sum (x + s) z) × (4 ≤ s))

-- a transport header at x with this checksum, in the bytes that are covered
pub record HasSum (n : L3) (h : L4) (x s : ℕ) (z : Zero) (size : ℕ) : Type 0 where
  pub w : ℕ
  pub even : s ≡ 2 * w
  pub reaches : s + 2 ≤ size
  pub addresses : address_sum n h ≡ sum (x + s) z
  pub ports : Ports n h x s z

-- a network header begins after that of Ethernet
pub far-off : {frame : List ℕ} {layout : Layout} {dl_type size at : ℕ} → FollowsType frame layout dl_type size at → header_size ≤ at
far-off follows = omega (arith, follows.after_tags)

abbrev pub laid : ℕ → L3 → L4 → Bool → Layout
laid tags n h routed = record { tags = tags; l3 = n; l4 = h; routed = routed }

-- ---- by field

module _ (n : L3) (k : ℕ) (h : L4) (x s : ℕ) (z : Zero) (size told_at : ℕ) (has : HasSum n h x s z size) (after : addresses_at n + 2 * k ≤ x)
    (tags : ℕ) (routed : Bool) where
  -- a port
  port-write : (offset : ℕ) → (offset ≡ 0) ⊎ (offset ≡ 2) → ((i : ℕ) → (told_at ≤ i) × (i < told_at + 2) → (i < x) ⊎ ((x + 4 ≤ i) × (i < x + s))) → (f : FieldId)
      → place_in (laid tags n h routed) f ≡ port_at offset h → sums_of (laid tags n h routed) f ≡ port_sum n h
      → Write (check n k x s z size told_at) (laid tags n h routed) f
  port-write offset o told f place sums = by has.ports
    where
      step : (offset ≡ 0) ⊎ (offset ≡ 2) → (i : ℕ) × (x + offset ≡ x + 2 * i) × (i ≤ 1)
      step (inl e) = (0, omega (arith, e), omega arith)
      step (inr e) = (1, omega (arith, e), omega arith)

      by : Ports n h x s z → Write (check n k x s z size told_at) (laid tags n h routed) f
      by (inl none) = inl (rw place (none offset))
      by (inr are) =
          let which = step o in
          let near = which.2 in
          let here = which.1 in
          let apart = are.2 in
          inr (inr (record {
            p = record { at = x + offset; size = 2; unit = 1; word_at = x + offset; words = 1 };
            first = [];
            last = [];
            stands = rw place (are.0 offset);
            sums = rw sums are.1;
            within = inr (which.0, here, omega (arith, has.reaches));
            has = (omega arith, omega arith);
            besides = inr (omega arith);
            first_apart = λ i l. tt;
            last_apart = λ i counts. tt;
            told_apart = λ i l. let t = told i l in grind arith;
          }))

  -- an address of so many words, from the i-th word of the addresses on
  address-write : (first : List Sum) → ((i : ℕ) → addresses_at n ≤ i → IsNoSum i first) → ((i : ℕ) → (told_at ≤ i) × (i < told_at + 2) → IsNoSum i first)
      → (j i words : ℕ) → j ≡ addresses_at n + 2 * i → i + words ≤ k → ((k : ℕ) → (told_at ≤ k) × (k < told_at + 2) → (k < addresses_at n) ⊎ ((x ≤ k) × (k < x + s))) → (f : FieldId)
      → place_in (laid tags n h routed) f ≡ whole j words → sums_of (laid tags n h routed) f ≡ first ++ address_sum n h
      → Follows (check n k x s z size told_at) (laid tags n h routed) f
  address-write first apart told_apart j i words here l told f stands sums = record {
    p = record { at = j; size = 2 * words; unit = 1; word_at = j; words = words };
    first = first;
    last = [];
    stands = stands;
    sums = rw sums (ap (λ (list : List Sum). first ++ list) has.addresses);
    within = inl (i, here, l);
    has = (omega arith, omega arith);
    besides = inr (omega (arith, here, l, after));
    first_apart = apart;
    last_apart = λ k counts. tt;
    told_apart = λ k m. let t = told k m in (by k t, (told_apart k m, beside k t));
  }
    where
      by : (k : ℕ) → (k < addresses_at n) ⊎ ((x ≤ k) × (k < x + s)) → IsOutside k j (2 * words)
      by k (inl m) = inl (omega (arith, here))
      by k (inr m) = inr (omega (arith, m, here, l, after))

      beside : (k : ℕ) → (k < addresses_at n) ⊎ ((x ≤ k) × (k < x + s)) → IsOutside k (x + s) 2
      beside k (inl m) = inl (omega (arith, after))
      beside k (inr m) = inl m.1

module _ (h : L4) (x s : ℕ) (z : Zero) (size told_at at : ℕ) (far : header_size ≤ at) (tags : ℕ) (routed : Bool) where
  pub over_ipv4 : HasSum (Ipv4 at) h x s z size → at + 12 + 2 * 4 ≤ x → IsTold (Ipv4 at) x s told_at
      → (f : FieldId) → Write (check (Ipv4 at) 4 x s z size told_at) (laid tags (Ipv4 at) h routed) f
  over_ipv4 has after told DlSrc = inr (inl (λ i counts. grind arith))
  over_ipv4 has after told DlDst = inr (inl (λ i counts. grind arith))
  over_ipv4 has after told NwTos = inr (inl (λ i counts. grind arith))
  over_ipv4 has after told NwTtl = inr (inl (λ i counts. grind arith))
  over_ipv4 has after told NwSrc =
      inr (inr (address-write (Ipv4 at) 4 h x s z size told_at has after tags routed (sum (at + 10) Plain) (λ i l. grind arith) (λ i l. grind arith)
      (at + 12) 0 2 (omega arith) (omega arith) (λ i l. grind arith) NwSrc refl refl))
  over_ipv4 has after told NwDst =
      inr (inr (address-write (Ipv4 at) 4 h x s z size told_at has after tags routed (sum (at + 10) Plain) (λ i l. grind arith) (λ i l. grind arith)
      (at + 16) 2 2 (omega arith) (omega arith) (λ i l. grind arith) NwDst refl refl))
  over_ipv4 has after told TpSrc = port-write (Ipv4 at) 4 h x s z size told_at has after tags routed 0 (inl refl) (λ i l. grind arith) TpSrc refl refl
  over_ipv4 has after told TpDst = port-write (Ipv4 at) 4 h x s z size told_at has after tags routed 2 (inr refl) (λ i l. grind arith) TpDst refl refl
  over_ipv4 has after told f = inl refl

  -- where so many words of the addresses are covered, by what a write to the destination does
  over_ipv6 : (k : ℕ) → 8 ≤ k → k ≤ 16 → HasSum (Ipv6 at) h x s z size → at + 40 ≤ x → IsTold (Ipv6 at) x s told_at
      → (f : FieldId) → (f ≡ Ipv6Dst → Write (check (Ipv6 at) k x s z size told_at) (laid tags (Ipv6 at) h routed) Ipv6Dst)
      → Write (check (Ipv6 at) k x s z size told_at) (laid tags (Ipv6 at) h routed) f
  over_ipv6 k least most has after told DlSrc to = inr (inl (λ i counts. grind arith))
  over_ipv6 k least most has after told DlDst to = inr (inl (λ i counts. grind arith))
  over_ipv6 k least most has after told NwTos to = inr (inl (λ i counts. grind arith))
  over_ipv6 k least most has after told NwTtl to = inr (inl (λ i counts. grind arith))
  over_ipv6 k least most has after told Ipv6Src to =
      inr (inr (address-write (Ipv6 at) k h x s z size told_at has (omega arith) tags routed [] (λ i l. tt) (λ i l. tt) (at + 8) 0 8 (omega arith) (omega arith) (λ i l. grind arith) Ipv6Src refl refl))
  over_ipv6 k least most has after told Ipv6Dst to = to refl
  over_ipv6 k least most has after told TpSrc to = port-write (Ipv6 at) k h x s z size told_at has (omega arith) tags routed 0 (inl refl) (λ i l. grind arith) TpSrc refl refl
  over_ipv6 k least most has after told TpDst to = port-write (Ipv6 at) k h x s z size told_at has (omega arith) tags routed 2 (inr refl) (λ i l. grind arith) TpDst refl refl
  over_ipv6 k least most has after told f to = inl refl

  -- both addresses, where no routing header was passed
  pub direct_ipv6 : HasSum (Ipv6 at) h x s z size → at + 40 ≤ x → IsTold (Ipv6 at) x s told_at
      → (f : FieldId) → (f ≡ Ipv6Dst → routed ≡ false) → Write (check (Ipv6 at) 16 x s z size told_at) (laid tags (Ipv6 at) h routed) f
  direct_ipv6 has after told f direct =
      over_ipv6 16 (omega arith) (omega arith) has after told f (λ e. inr (inr (address-write (Ipv6 at) 16 h x s z size told_at has (omega arith) tags routed [] (λ i l. tt) (λ i l. tt)
      (at + 24) 8 8 (omega arith) (omega arith) (λ i l. grind arith) Ipv6Dst refl (rw (direct e) refl))))

  -- the source alone, where one was
  pub routed_ipv6 : HasSum (Ipv6 at) h x s z size → at + 40 ≤ x → IsTold (Ipv6 at) x s told_at
      → routed ≡ true → (f : FieldId) → Write (check (Ipv6 at) 8 x s z size told_at) (laid tags (Ipv6 at) h routed) f
  routed_ipv6 has after told is f =
      over_ipv6 8 (omega arith) (omega arith) has after told f (λ e. inr (inl (λ i counts. (grind arith, rw is tt))))
