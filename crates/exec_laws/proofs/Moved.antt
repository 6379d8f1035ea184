-- A frame in which everything from some offset on stands as far from there as in another: its headers are the same, at
-- offsets that are as far on.
use Rattle.std.proofs.Common.{◌≡◌, ℕ, zero, suc, ◌+◌, ◌*◌, ◌^◌, ◌<◌, ◌≤◌, min, Bool, true, false, ◌&&◌, ◌==◌, nat_le, if◌then◌else◌, List, length, slice_index, Option, Some, None, option_map, ◌⊎◌, inl, inr, refl, sym, ap, ap₂, ◌∙◌, arith}
use Rattle.std.proofs.lemmas.Bool.{le-leb, lt-leb, cases_lt}
use Rattle.spec_base.specs.Bytes.{big_endian_at}
use Rattle.spec_keys.specs.Protocols.{is_tag_type}
use Rattle.spec_frames.specs.declared.headers.Carried.{Carried}
use Rattle.spec_frames.specs.declared.headers.Datagram.{Datagram}
use Rattle.spec_frames.specs.declared.headers.Fragment.{Fragment}
use Rattle.spec_frames.specs.declared.headers.Fragment.TheVariants.{Whole, First, Later}
use Rattle.spec_frames.specs.declared.headers.UpperLayer.{UpperLayer}
use Rattle.spec_frames.specs.declared.headers.Network.{Network}
use Rattle.spec_frames.specs.declared.headers.Network.TheVariants.{Nothing, Arp, Ipv4, Ipv6}
use Rattle.spec_frames.specs.declared.layout.L4.{L4}
use Rattle.spec_frames.specs.declared.layout.L4.TheVariants as l4
use Rattle.spec_frames.specs.Ethernet.{least_type, no_type, is_tag_at, is_snap, carried_by, carried}
use Rattle.spec_frames.specs.Arp.{is_arp}
use Rattle.spec_frames.specs.Ipv4 as ipv4
use Rattle.spec_frames.specs.Ipv6 as ipv6
use Rattle.spec_frames.specs.Ipv6.{is_extension, is_present, extension_size, fragment, after_extension, reached, upper_layer}
use Rattle.spec_frames.specs.Network.{by_ipv6, network_at, network}
use Rattle.spec_frames.specs.Transport.{carries, unless_later, transport}
use Rattle.spec_frames.specs.Key.{shown, with_transport, with_network}
use Rattle.frame_laws.proofs.keys.Forms.{by_network}
use Rattle.frame_laws.proofs.TransportLaws.{Fits, Told, transport-tells}
use Rattle.frame_laws.proofs.HeaderLaws.{IsPlaced, network-IsPlaced}

-- ---- numbers of which both are greater by as many

pub le-moved : (s x y x' y' : ℕ) → x' ≡ x + s → y' ≡ y + s → nat_le x' y' ≡ nat_le x y
le-moved s x y x' y' e f = by (cases_lt y x)
  where
    by : (y < x) ⊎ (x ≤ y) → nat_le x' y' ≡ nat_le x y
    by (inl l) = lt-leb x' y' (omega arith) ∙ sym (lt-leb x y l)
    by (inr l) = le-leb x' y' (omega arith) ∙ sym (le-leb x y l)

-- ---- headers as far on

abbrev pub carried_on : ℕ → Carried → Carried
carried_on s c = record { dl_type = c.dl_type; at = c.at + s }

abbrev pub upper_on : ℕ → UpperLayer → UpperLayer
upper_on s u = record { protocol = u.protocol; at = u.at + s; fragment = u.fragment; routed = u.routed }

abbrev pub datagram_on : ℕ → Datagram → Datagram
datagram_on s d = record { tos = d.tos; ttl = d.ttl; end = d.end + s; upper = upper_on s d.upper }

abbrev pub network_on : ℕ → Network → Network
network_on s Nothing = Nothing
network_on s (Arp at) = Arp (at + s)
network_on s (Ipv4 at d) = Ipv4 (at + s) (datagram_on s d)
network_on s (Ipv6 at d) = Ipv6 (at + s) (datagram_on s d)

module _ (a b : List ℕ) (from s : ℕ) (sized : length b ≡ length a + s)
    (same : (i : ℕ) → from ≤ i → slice_index b (i + s) ≡ slice_index a i) where
  pub byte-moved : (i j : ℕ) → j ≡ i + s → from ≤ i → slice_index b j ≡ slice_index a i
  byte-moved i j e l = ap (slice_index b) e ∙ same i l

  pub number-moved : (n i j : ℕ) → j ≡ i + s → from ≤ i → big_endian_at n b j ≡ big_endian_at n a i
  unfolding big_endian_at
  number-moved zero i j e l = refl
  number-moved (suc n) i j e l =
      ap₂ (λ (x y : ℕ). x * 256 ^ n + y) (byte-moved i j e l) (number-moved n (i + 1) (j + 1) (omega arith) (omega arith))

  pub size-moved : (i j : ℕ) → j ≡ i + s → nat_le j (length b) ≡ nat_le i (length a)
  size-moved i j e = le-moved s i (length a) j (length b) e sized

  -- ---- Ethernet

  pub tag_at-moved : (i j : ℕ) → j ≡ i + s → from ≤ i → is_tag_at b j ≡ is_tag_at a i
  unfolding is_tag_at
  tag_at-moved i j e l =
      ap₂ (λ (t : Bool) (number : ℕ). t && is_tag_type number) (size-moved (i + 4 + 2) (j + 4 + 2) (omega arith)) (number-moved 2 i j e l)

  pub carried_by-moved : (i j : ℕ) → j ≡ i + s → from ≤ i → carried_by b j ≡ carried_on s (carried_by a i)
  unfolding carried_by
  carried_by-moved i j e l =
      rw (
        number-moved 2 i j e l,
        size-moved (i + 2 + 6 + 2) (j + 2 + 6 + 2) (omega arith),
        number-moved 6 (i + 2) (j + 2) (omega arith) (omega arith),
        number-moved 2 (i + 2 + 6) (j + 2 + 6) (omega arith) (omega arith),
      )
      (by (nat_le least_type (big_endian_at 2 a i)) (is_snap a (i + 2)))
    where
      by : (t u : Bool)
          → (if t then record { dl_type = big_endian_at 2 a i; at = j + 2 }
          else (if u then record { dl_type = big_endian_at 2 a (i + 2 + 6); at = j + 2 + 6 + 2 } else record { dl_type = no_type; at = j + 2 }))
          ≡ carried_on s (if t then record { dl_type = big_endian_at 2 a i; at = i + 2 }
          else (if u then record { dl_type = big_endian_at 2 a (i + 2 + 6); at = i + 2 + 6 + 2 } else record { dl_type = no_type; at = i + 2 }))
      by true u = ap (λ (z : ℕ). record { dl_type = big_endian_at 2 a i; at = z }) (omega arith)
      by false true = ap (λ (z : ℕ). record { dl_type = big_endian_at 2 a (i + 2 + 6); at = z }) (omega arith)
      by false false = ap (λ (z : ℕ). record { dl_type = no_type; at = z }) (omega arith)

  -- ---- IPv6's chain

  part-on : (number i j : ℕ) (part : Fragment) (o : Option UpperLayer)
      → option_map (after_extension number part) (option_map (upper_on s) o) ≡ option_map (upper_on s) (option_map (after_extension number part) o)
  part-on number i j part None = refl
  part-on number i j part (Some u) = refl

  abbrev onward : Fragment → ℕ → ℕ → Option UpperLayer → Option UpperLayer
  onward Later number after others = Some (reached number after Later)
  onward part number after others = option_map (after_extension number part) others

  chosen-on : (number i j after further : ℕ) → j ≡ i + s → further ≡ after + s → (t u : Bool) (part : Fragment) (o : Option UpperLayer)
      → (if t then (if u then onward part number further (option_map (upper_on s) o) else None) else Some (reached number j Whole))
      ≡ option_map (upper_on s) (if t then (if u then onward part number after o else None) else Some (reached number i Whole))
  chosen-on number i j after further e f false u part o = ap (λ (z : ℕ). Some (reached number z Whole)) e
  chosen-on number i j after further e f true false part o = refl
  chosen-on number i j after further e f true true Later o = ap (λ (z : ℕ). Some (reached number z Later)) f
  chosen-on number i j after further e f true true Whole o = part-on number i j Whole o
  chosen-on number i j after further e f true true First o = part-on number i j First o

  upper_layer-moved : (room end ends number i j : ℕ) → ends ≡ end + s → j ≡ i + s → from ≤ i
      → upper_layer room b ends number j ≡ option_map (upper_on s) (upper_layer room a end number i)
  unfolding upper_layer
  upper_layer-moved zero end ends number i j f e l = by (is_extension number)
    where
      by : (t : Bool) → (if t then None else Some (record { protocol = number; at = j; fragment = Whole; routed = false }))
          ≡ option_map (upper_on s) (if t then None else Some (record { protocol = number; at = i; fragment = Whole; routed = false }))
      by true = refl
      by false = ap (λ (z : ℕ). Some (record { protocol = number; at = z; fragment = Whole; routed = false })) e
  upper_layer-moved (suc room) end ends number i j f e l =
      let size = byte-moved (i + 1) (j + 1) (omega arith) (omega arith) in
      let next : j + extension_size number a i ≡ i + extension_size number a i + s = omega arith in
      let others = upper_layer-moved room end ends (slice_index a i) (i + extension_size number a i) (j + extension_size number a i) f next (omega arith) in
      rw (
        size,
        byte-moved i j e l,
        number-moved 2 (i + 2) (j + 2) (omega arith) (omega arith),
        le-moved s (i + 8) end (j + 8) ends (omega arith) f,
        le-moved s (i + extension_size number a i) end (j + extension_size number a i) ends next f,
        others,
      )
      (chosen-on number i j (i + extension_size number a i) (j + extension_size number a i) e next (is_extension number) (is_present number a end i) (fragment number a i) _)

  -- ---- network headers

  is_arp-moved : (i j : ℕ) → j ≡ i + s → from ≤ i → is_arp b j ≡ is_arp a i
  unfolding is_arp
  is_arp-moved i j e l =
      rw (
        size-moved (i + 28) (j + 28) (omega arith),
        number-moved 2 i j e l,
        number-moved 2 (i + 2) (j + 2) (omega arith) (omega arith),
        byte-moved (i + 4) (j + 4) (omega arith) (omega arith),
        byte-moved (i + 5) (j + 5) (omega arith) (omega arith),
      ) refl

  is_ipv4-moved : (i j : ℕ) → j ≡ i + s → from ≤ i → ipv4.is_ipv4 b j ≡ ipv4.is_ipv4 a i
  unfolding ipv4.is_ipv4
  is_ipv4-moved i j e l =
      rw (
        size-moved (i + 20) (j + 20) (omega arith),
        byte-moved i j e l,
        number-moved 2 (i + 2) (j + 2) (omega arith) (omega arith),
        size-moved (i + ipv4.header_size a i) (j + ipv4.header_size a i) (omega arith),
      ) refl

  ipv4-moved : (i j : ℕ) → j ≡ i + s → from ≤ i → ipv4.ipv4 b j ≡ datagram_on s (ipv4.ipv4 a i)
  unfolding ipv4.ipv4
  ipv4-moved i j e l =
      let ends : min (j + ipv4.total_size a i) (length b) ≡ min (i + ipv4.total_size a i) (length a) + s = omega (arith, sized) in
      let begins : j + ipv4.header_size a i ≡ i + ipv4.header_size a i + s = omega arith in
      rw (
        number-moved 2 (i + 2) (j + 2) (omega arith) (omega arith),
        byte-moved (i + 1) (j + 1) (omega arith) (omega arith),
        byte-moved (i + 8) (j + 8) (omega arith) (omega arith),
        byte-moved (i + 9) (j + 9) (omega arith) (omega arith),
        byte-moved i j e l,
        number-moved 2 (i + 6) (j + 6) (omega arith) (omega arith),
        ends,
        begins,
      ) refl

  abbrev datagram_of : ℕ → ℕ → UpperLayer → Datagram
  datagram_of i end u = record { tos = ipv6.traffic_class a i; ttl = slice_index a (i + 7); end = end; upper = u }

  ipv6-moved : (i j : ℕ) → j ≡ i + s → from ≤ i → ipv6.ipv6 b j ≡ option_map (datagram_on s) (ipv6.ipv6 a i)
  unfolding ipv6.ipv6
  ipv6-moved i j e l =
      let ends : min (j + 40 + ipv6.payload_size a i) (length b) ≡ min (i + 40 + ipv6.payload_size a i) (length a) + s = omega (arith, sized) in
      rw (
        size-moved (i + 40) (j + 40) (omega arith),
        byte-moved i j e l,
        number-moved 2 (i + 4) (j + 4) (omega arith) (omega arith),
        ends,
        number-moved 2 i j e l,
        byte-moved (i + 7) (j + 7) (omega arith) (omega arith),
        byte-moved (i + 6) (j + 6) (omega arith) (omega arith),
        upper_layer-moved 8 (ipv6.end_of a i) (ipv6.end_of a i + s) (slice_index a (i + 6)) (i + 40) (j + 40) refl (omega arith) (omega arith),
      )
      (by (nat_le (i + 40) (length a) && (ipv4.version a i == 6)) (upper_layer 8 a (ipv6.end_of a i) (slice_index a (i + 6)) (i + 40)))
    where
      by : (t : Bool) (o : Option UpperLayer)
          → (if t then option_map (datagram_of i (ipv6.end_of a i + s)) (option_map (upper_on s) o) else None)
          ≡ option_map (datagram_on s) (if t then option_map (datagram_of i (ipv6.end_of a i)) o else None)
      by true None = refl
      by true (Some u) = refl
      by false o = refl

  pub network_at-moved : (dl_type i j : ℕ) → j ≡ i + s → from ≤ i → network_at b dl_type j ≡ network_on s (network_at a dl_type i)
  unfolding network_at
  network_at-moved dl_type i j e l =
      rw (is_arp-moved i j e l, is_ipv4-moved i j e l, ipv4-moved i j e l, ipv6-moved i j e l)
      (by (dl_type == 0x0806) (is_arp a i) (dl_type == 0x0800) (ipv4.is_ipv4 a i) (dl_type == 0x86dd) (ipv6.ipv6 a i))
    where
      by : (t u v w x : Bool) (o : Option Datagram)
          → (if t then (if u then Arp j else Nothing) else (if v then (if w then Ipv4 j (datagram_on s (ipv4.ipv4 a i)) else Nothing)
          else (if x then by_ipv6 j (option_map (datagram_on s) o) else Nothing)))
          ≡ network_on s (if t then (if u then Arp i else Nothing) else (if v then (if w then Ipv4 i (ipv4.ipv4 a i) else Nothing) else (if x then by_ipv6 i o else Nothing)))
      by true true v w x o = ap Arp e
      by true false v w x o = refl
      by false u true true x o = ap (λ (z : ℕ). Ipv4 z (datagram_on s (ipv4.ipv4 a i))) e
      by false u true false x o = refl
      by false u false w true None = refl
      by false u false w true (Some d) = ap (λ (z : ℕ). Ipv6 z (datagram_on s d)) e
      by false u false w false o = refl

  -- ---- the transport header, and the key

  -- what is read of a network header and of a packet stands there
  abbrev pub LiesFrom : Network → Type 0
  LiesFrom Nothing = Unit {0}
  LiesFrom (Arp at) = from ≤ at
  LiesFrom (Ipv4 at d) = (from ≤ at) × (from ≤ d.upper.at)
  LiesFrom (Ipv6 at d) = (from ≤ at) × (from ≤ d.upper.at)

  pub network-LiesFrom : from ≤ (carried a).at → LiesFrom (network a)
  network-LiesFrom l =
      by_network a (carried a).dl_type (carried a).at (λ n. IsPlaced a n → LiesFrom n) (λ p. tt) (λ t h p. l)
      (λ t h p. (l, omega (arith, p.1, l))) (λ t d h p. (l, omega (arith, p.1, l))) (network-IsPlaced a)

  abbrev pub l4_on : L4 → L4
  l4_on l4.None = l4.None
  l4_on (l4.Tcp at) = l4.Tcp (at + s)
  l4_on (l4.Udp at) = l4.Udp (at + s)
  l4_on (l4.Icmp at) = l4.Icmp (at + s)
  l4_on (l4.Icmp6 at) = l4.Icmp6 (at + s)

  carries-on : (d : Datagram) (number size : ℕ) → carries (datagram_on s d) number size ≡ carries d number size
  carries-on d number size = ap (λ (t : Bool). (d.upper.protocol == number) && t) (le-moved s (d.upper.at + size) d.end (d.upper.at + s + size) (d.end + s) (omega arith) refl)

  pub transport-on : (n : Network) → transport (network_on s n) ≡ l4_on (transport n)
  unfolding transport
  transport-on Nothing = refl
  transport-on (Arp at) = refl
  transport-on (Ipv4 at d) =
      rw (carries-on d 6 20, carries-on d 17 8, carries-on d 1 8) (by d.upper.fragment (carries d 6 20) (carries d 17 8) (carries d 1 8))
    where
      by : (part : Fragment) (t u v : Bool)
          → unless_later part (if t then l4.Tcp (d.upper.at + s) else (if u then l4.Udp (d.upper.at + s) else (if v then l4.Icmp (d.upper.at + s) else l4.None)))
          ≡ l4_on (unless_later part (if t then l4.Tcp d.upper.at else (if u then l4.Udp d.upper.at else (if v then l4.Icmp d.upper.at else l4.None))))
      by Later t u v = refl
      by Whole true u v = refl
      by Whole false true v = refl
      by Whole false false true = refl
      by Whole false false false = refl
      by First true u v = refl
      by First false true v = refl
      by First false false true = refl
      by First false false false = refl
  transport-on (Ipv6 at d) =
      rw (carries-on d 6 20, carries-on d 17 8, carries-on d 58 4) (by d.upper.fragment (carries d 6 20) (carries d 17 8) (carries d 58 4))
    where
      by : (part : Fragment) (t u v : Bool)
          → unless_later part (if t then l4.Tcp (d.upper.at + s) else (if u then l4.Udp (d.upper.at + s) else (if v then l4.Icmp6 (d.upper.at + s) else l4.None)))
          ≡ l4_on (unless_later part (if t then l4.Tcp d.upper.at else (if u then l4.Udp d.upper.at else (if v then l4.Icmp6 d.upper.at else l4.None))))
      by Later t u v = refl
      by Whole true u v = refl
      by Whole false true v = refl
      by Whole false false true = refl
      by Whole false false false = refl
      by First true u v = refl
      by First false true v = refl
      by First false false true = refl
      by First false false false = refl

  shown-on : (part : Fragment) (h : L4) → shown part (l4_on h) ≡ l4_on (shown part h)
  shown-on Whole h = refl
  shown-on First h = refl
  shown-on Later h = refl

  -- a transport header stands there
  abbrev IsFrom : L4 → Type 0
  IsFrom l4.None = Unit {0}
  IsFrom (l4.Tcp at) = from ≤ at
  IsFrom (l4.Udp at) = from ≤ at
  IsFrom (l4.Icmp at) = from ≤ at
  IsFrom (l4.Icmp6 at) = from ≤ at

  begins-from : (n : Network) → LiesFrom n → (number size at : ℕ) → 1 ≤ size → Fits a n number size at → from ≤ at
  begins-from Nothing l number size at some f = let there = f.is_there in absurd (omega arith)
  begins-from (Arp x) l number size at some f = let there = f.is_there in absurd (omega arith)
  begins-from (Ipv4 x d) l number size at some f = let begins = f.begins in omega (arith, l.1)
  begins-from (Ipv6 x d) l number size at some f = let begins = f.begins in omega (arith, l.1)

  told-IsFrom : (n : Network) → LiesFrom n → (h : L4) → Told a n h → IsFrom h
  told-IsFrom n l l4.None t = tt
  told-IsFrom n l (l4.Tcp at) t = begins-from n l 6 20 at (omega arith) t
  told-IsFrom n l (l4.Udp at) t = begins-from n l 17 8 at (omega arith) t
  told-IsFrom n l (l4.Icmp at) t = begins-from n l 1 8 at (omega arith) t.1
  told-IsFrom n l (l4.Icmp6 at) t = begins-from n l 58 4 at (omega arith) t.1

  shown-IsFrom : (part : Fragment) (h : L4) → IsFrom h → IsFrom (shown part h)
  shown-IsFrom Whole h l = l
  shown-IsFrom First h l = tt
  shown-IsFrom Later h l = tt

  with_transport-moved : (h : L4) → IsFrom h → (key : List ℕ) → with_transport b (l4_on h) key ≡ with_transport a h key
  unfolding with_transport
  with_transport-moved l4.None l key = refl
  with_transport-moved (l4.Tcp at) l key = rw (number-moved 2 at (at + s) refl l, number-moved 2 (at + 2) (at + s + 2) (omega arith) (omega arith)) refl
  with_transport-moved (l4.Udp at) l key = rw (number-moved 2 at (at + s) refl l, number-moved 2 (at + 2) (at + s + 2) (omega arith) (omega arith)) refl
  with_transport-moved (l4.Icmp at) l key = rw (byte-moved at (at + s) refl l, byte-moved (at + 1) (at + s + 1) (omega arith) (omega arith)) refl
  with_transport-moved (l4.Icmp6 at) l key = rw (byte-moved at (at + s) refl l, byte-moved (at + 1) (at + s + 1) (omega arith) (omega arith)) refl

  shown_header : (n : Network) (part : Fragment) → LiesFrom n → (key : List ℕ)
      → with_transport b (shown part (transport (network_on s n))) key ≡ with_transport a (shown part (transport n)) key
  shown_header n part l key =
      ap (λ (h : L4). with_transport b (shown part h) key) (transport-on n) ∙ ap (λ (h : L4). with_transport b h key) (shown-on part (transport n))
      ∙ with_transport-moved (shown part (transport n)) (shown-IsFrom part _ (told-IsFrom n l _ (transport-tells a n))) key

  pub with_network-moved : (n : Network) → LiesFrom n → (key : List ℕ) → with_network b (network_on s n) key ≡ with_network a n key
  unfolding with_network
  with_network-moved Nothing l key = refl
  with_network-moved (Arp at) l key =
      rw (
        number-moved 2 (at + 6) (at + s + 6) (omega arith) (omega arith),
        number-moved 6 (at + 8) (at + s + 8) (omega arith) (omega arith),
        number-moved 4 (at + 14) (at + s + 14) (omega arith) (omega arith),
        number-moved 6 (at + 18) (at + s + 18) (omega arith) (omega arith),
        number-moved 4 (at + 24) (at + s + 24) (omega arith) (omega arith),
      ) refl
  with_network-moved (Ipv4 at d) l key =
      rw (number-moved 4 (at + 12) (at + s + 12) (omega arith) (omega (arith, l.0)), number-moved 4 (at + 16) (at + s + 16) (omega arith) (omega (arith, l.0)))
      (shown_header (Ipv4 at d) d.upper.fragment l _)
  with_network-moved (Ipv6 at d) l key =
      rw (number-moved 16 (at + 8) (at + s + 8) (omega arith) (omega (arith, l.0)), number-moved 16 (at + 24) (at + s + 24) (omega arith) (omega (arith, l.0)))
      (shown_header (Ipv6 at d) d.upper.fragment l _)
