-- A transport checksum stays right over the pseudo headers of IPv4 and IPv6.
use Rattle.std.proofs.Common.{◌≡◌, ◌≢◌, ℕ, ◌+◌, ◌*◌, ◌/◌, ◌%◌, ◌<◌, ◌≤◌, true, false, List, [], ◌∷◌, ◌++◌, length, inl, inr, refl, sym, ap, ap₂, subst, arith}
use Rattle.std.specs.Prelude.{sum}
use Rattle.std.proofs.lemmas.List.Elements.{All-append, All-cons, All-nil}
use Rattle.std.proofs.lemmas.List.Sums.{sum_by-append}
use Rattle.spec_base.specs.Bytes.{big_endian_at}
use Rattle.spec_keys.specs.declared.field_id.FieldId.{FieldId}
use Rattle.spec_keys.specs.declared.field_id.FieldId.TheVariants.{Ipv6Dst}
use Rattle.spec_exec.specs.Checksum.{words}
use Rattle.spec_frames.specs.declared.layout.Layout.{Layout}
use Rattle.spec_frames.specs.declared.layout.L3.{L3}
use Rattle.spec_frames.specs.declared.layout.L3.TheVariants as l3
use Rattle.spec_frames.specs.declared.layout.L4.{L4}
use Rattle.spec_frames.specs.Ethernet.{header_size}
use Rattle.spec_frames.specs.Layout.{layout_of}
use Rattle.spec_actions.specs.declared.action.DpAction.TheVariants.{Set}
use Rattle.spec_exec.specs.Places.{Zero, Plain, Absent}
use Rattle.spec_exec.specs.Rewriting.{after_action}
use Rattle.frame_laws.specs.Headers.{IsAfter}
use Rattle.frame_laws.proofs.HeaderLaws.{network_follows}
use Rattle.exec_laws.proofs.Replacing.{number-same}
use Rattle.exec_laws.proofs.Bytes.{EachByte}
use Rattle.exec_laws.proofs.checksums.Sums.{sum-first}
use Rattle.exec_laws.proofs.checksums.Cover.{cover, total}
use Rattle.exec_laws.proofs.checksums.Writes.{Counts, Write, IsThere, told-kept, stays-right, sum-absent, sum-present}
use Rattle.exec_laws.proofs.checksums.Transport.{addresses_at, check, IsTold, HasSum, far-off, laid, over_ipv4, direct_ipv6, routed_ipv6}
use Rattle.exec_laws.specs.Right.{AreWords, IsRight, pseudo_header, final_header, covered}

-- ---- words of a pseudo header that are no addresses

abbrev IsWord : ℕ → Type 0
IsWord word = word < words

abbrev size6 : (protocol size : ℕ) → List ℕ
size6 protocol size = size / words ∷ size % words ∷ 0 ∷ protocol ∷ []

two-words : (a b : ℕ) → IsWord a → IsWord b → AreWords (a ∷ b ∷ [])
two-words a b l m = All-cons IsWord a (b ∷ []) l (All-cons IsWord b [] m (All-nil IsWord))

size6-words : (protocol size : ℕ) → IsWord protocol → IsWord size → AreWords (size6 protocol size)
size6-words protocol size l m =
    All-cons IsWord (size / words) (size % words ∷ 0 ∷ protocol ∷ []) (omega arith)
    (All-cons IsWord (size % words) (0 ∷ protocol ∷ []) (omega arith) (two-words 0 protocol (omega arith) l))

size6-some : (protocol size : ℕ) → 0 < protocol → 0 < sum (size6 protocol size)
size6-some protocol size some =
    let p = sum-first (size / words) (size % words ∷ 0 ∷ protocol ∷ []) in
    let q = sum-first (size % words) (0 ∷ protocol ∷ []) in
    let r = sum-first 0 (protocol ∷ []) in
    let s = sum-first protocol [] in
    omega (arith, p, q, r, s)

-- ---- a transport header and what follows it

-- The transport header h of a frame at x, which has a checksum s bytes on and reaches over so many bytes. By the network
-- header, what 0 says in the checksum, and where it is said how many bytes those are.
pub record Segment (frame : List ℕ) : Type 0 where
  pub h : L4
  pub x : ℕ
  pub s : ℕ
  pub protocol : ℕ
  pub size : ℕ
  pub z : L3 → Zero
  pub told_at : L3 → ℕ
  pub has : (n : L3) → HasSum n h x s (z n) size
  pub told : (n : L3) → IsAfter n x → IsTold n x s (told_at n)
  pub some : 0 < protocol
  pub fits : protocol < words
  pub small : size < words
  pub is : (layout_of frame).l4 ≡ h

module _ (frame : List ℕ) (bytes : EachByte frame) (f : FieldId) (value mask : ℕ) where
  abbrev result : List ℕ
  result = after_action (Set f value mask) frame

  -- What is said of how much is covered stays, and words that are covered stay right. A checksum that is absent stays so,
  -- and so does one that is there.
  pub record Stays (g : Segment frame) (n : L3) (covers : List ℕ → List ℕ) : Type 0 where
    pub told-same : big_endian_at 2 result (g.told_at n) ≡ big_endian_at 2 frame (g.told_at n)
    pub right : IsThere (g.z n) (big_endian_at 2 frame (g.x + g.s)) → IsRight (covers frame) → IsRight (covers result)
    pub absent : g.z n ≡ Absent → big_endian_at 2 frame (g.x + g.s) ≡ 0 → big_endian_at 2 result (g.x + g.s) ≡ 0
    pub present : g.z n ≢ Plain → big_endian_at 2 frame (g.x + g.s) ≢ 0 → big_endian_at 2 result (g.x + g.s) ≢ 0

  -- so they do over this pseudo header
  abbrev pub Keeps : (List ℕ → L3 → ℕ → ℕ → List ℕ) → Type 0
  Keeps pseudo = (g : Segment frame) → IsAfter (layout_of frame).l3 g.x → Stays g (layout_of frame).l3 (λ b. covered pseudo b (layout_of frame).l3 g.protocol g.size g.x)

  -- by what a write does to the checksum, which covers k words of the addresses and those that are given
  by-write : (g : Segment frame) (n : L3) → (layout_of frame).l3 ≡ n → header_size ≤ length frame → (k : ℕ) → addresses_at n + 2 * k ≤ g.x
      → (given : List ℕ) → AreWords given → 0 < sum given → Write (check n k g.x g.s (g.z n) g.size (g.told_at n)) (laid (layout_of frame).tags n g.h (layout_of frame).routed) f
      → Stays g n (cover (addresses_at n) k given g.size g.x)
  by-write g n e whole k apart given are more write =
      let c = check n k g.x g.s (g.z n) g.size (g.told_at n) in
      let laid-is = ap₂ (λ (m : L3) (h : L4). laid (layout_of frame).tags m h (layout_of frame).routed) e g.is in
      let here : Write c (layout_of frame) f = subst (λ (l : Layout). Write c l f) (sym laid-is) write in
      let has = g.has n in
      let stands = ap (λ (k : ℕ). g.x + k) has.even in
      let counts : (i : ℕ) → g.x + g.s ≤ i → i < g.x + g.s + 2 → Counts c i = λ i l m. inr (inl (omega arith, omega (arith, has.reaches, m))) in
      record {
        told-same = number-same frame result 2 (g.told_at n) (λ i l m. told-kept c frame bytes whole f value mask here i (l, m));
        right = λ there. stays-right c frame bytes whole f value mask here given are apart (inr (has.w, stands, omega (arith, has.even, has.reaches))) there
            (let t = total (addresses_at n) k given g.size g.x apart result in omega (arith, t, more));
        absent = sum-absent c frame bytes whole f value mask here counts;
        present = sum-present c frame bytes whole f value mask here counts;
      }

  -- ---- by the network header

  pub header-keeps : ((at : ℕ) → (layout_of frame).l3 ≡ l3.Ipv6 at → f ≡ Ipv6Dst → (layout_of frame).routed ≡ false) → Keeps pseudo_header
  header-keeps direct g = by (layout_of frame).l3 refl
    where
      by : (n : L3) → (layout_of frame).l3 ≡ n → IsAfter n g.x → Stays g n (λ b. covered pseudo_header b n g.protocol g.size g.x)
      by l3.None e after = absurd after
      by (l3.Arp at) e after = absurd after
      by (l3.Ipv4 at) e after =
          let n = l3.Ipv4 at in
          let follows = network_follows frame n e in
          let apart : at + 12 + 2 * 4 ≤ g.x = omega (arith, after) in
          let some = sum-first g.protocol (g.size ∷ []) in
          let is = by-write g n e (omega (arith, (far-off follows), follows.is_within)) 4 apart (g.protocol ∷ g.size ∷ []) (two-words g.protocol g.size g.fits g.small) (omega (arith, some, g.some))
          (over_ipv4 g.h g.x g.s (g.z n) g.size (g.told_at n) at (far-off follows) (layout_of frame).tags (layout_of frame).routed (g.has n) apart (g.told n after) f) in
          record { told-same = is.told-same; right = is.right; absent = is.absent; present = is.present }
      by (l3.Ipv6 at) e after =
          let n = l3.Ipv6 at in
          let follows = network_follows frame n e in
          let is = by-write g n e (omega (arith, (far-off follows), follows.is_within)) 16 (omega (arith, after)) (size6 g.protocol g.size)
          (size6-words g.protocol g.size g.fits g.small) (size6-some g.protocol g.size g.some)
          (direct_ipv6 g.h g.x g.s (g.z n) g.size (g.told_at n) at (far-off follows) (layout_of frame).tags (layout_of frame).routed (g.has n) after (g.told n after) f (direct at e)) in
          record { told-same = is.told-same; right = is.right; absent = is.absent; present = is.present }

  -- on the way to a final destination
  pub final-keeps : (to : List ℕ) → AreWords to → (at : ℕ) → (layout_of frame).l3 ≡ l3.Ipv6 at → (layout_of frame).routed ≡ true → Keeps (final_header to)
  final-keeps to are at over routed g = by (layout_of frame).l3 over refl
    where
      by : (n : L3) → n ≡ l3.Ipv6 at → (layout_of frame).l3 ≡ n → IsAfter n g.x → Stays g n (λ b. covered (final_header to) b n g.protocol g.size g.x)
      by l3.None six e after = absurd after
      by (l3.Arp other) six e after = absurd after
      by (l3.Ipv4 other) six e after = absurd cc
      by (l3.Ipv6 other) six e after =
          let n = l3.Ipv6 other in
          let follows = network_follows frame n e in
          let some = sum_by-append (λ (w : ℕ). w) to (size6 g.protocol g.size) in
          let is = by-write g n e (omega (arith, (far-off follows), follows.is_within)) 8 (omega (arith, after)) (to ++ size6 g.protocol g.size)
          (All-append IsWord to (size6 g.protocol g.size) are (size6-words g.protocol g.size g.fits g.small)) (omega (arith, some, size6-some g.protocol g.size g.some))
          (routed_ipv6 g.h g.x g.s (g.z n) g.size (g.told_at n) other (far-off follows) (layout_of frame).tags (layout_of frame).routed (g.has n) after (g.told n after) routed f) in
          record { told-same = is.told-same; right = is.right; absent = is.absent; present = is.present }
