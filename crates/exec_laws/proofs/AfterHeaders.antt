-- What stands after an IP header and its options or extension headers: the transport header, and the checksums there. So
-- what is written of the IP header is none of it, and such a checksum is none of the IP header.
use Rattle.std.proofs.Common.{◌≡◌, ℕ, ◌+◌, ◌<◌, ◌≤◌, List, [], ◌∷◌, slice_index, refl, subst, ◌∙◌, arith}
use Rattle.spec_base.specs.Bytes.{big_endian_at}
use Rattle.spec_frames.specs.declared.headers.Fragment.{Fragment}
use Rattle.spec_frames.specs.declared.headers.Fragment.TheVariants.{Whole, First, Later}
use Rattle.spec_frames.specs.declared.headers.Network.TheVariants as network
use Rattle.spec_frames.specs.declared.layout.L3.{L3}
use Rattle.spec_frames.specs.declared.layout.L3.TheVariants as l3
use Rattle.spec_frames.specs.declared.layout.L4.{L4}
use Rattle.spec_frames.specs.declared.layout.L4.TheVariants as l4
use Rattle.spec_frames.specs.Ethernet.{carried}
use Rattle.spec_frames.specs.Ipv4 as ipv4
use Rattle.spec_frames.specs.Transport.{transport}
use Rattle.spec_frames.specs.Layout.{place_of_network, layout_of}
use Rattle.spec_frames.specs.Key.{shown}
use Rattle.spec_exec.specs.Writing.{with_number}
use Rattle.spec_exec.specs.Places.{Place, Sum, address_sum}
use Rattle.spec_exec.specs.Rewriting.{followed, corrected}
use Rattle.frame_laws.proofs.keys.Forms.{by_length, by_network}
use Rattle.frame_laws.proofs.TransportLaws.{Told, transport-tells}
use Rattle.frame_laws.proofs.HeaderLaws.{HasSizes, is_ipv4-HasSizes}
use Rattle.exec_laws.proofs.Replacing.{number-same, with_number-length, with_number-before}
use Rattle.exec_laws.proofs.Within.{SumsFit, fit-moved}

-- ---- the transport header

-- a transport header begins at this offset or after
abbrev pub After4 : ℕ → L4 → Type 0
After4 end l4.None = Unit {0}
After4 end (l4.Tcp at) = end ≤ at
After4 end (l4.Udp at) = end ≤ at
After4 end (l4.Icmp at) = end ≤ at
After4 end (l4.Icmp6 at) = end ≤ at

-- what a layout says that names a header of IPv4 there
abbrev pub SaysIpv4 : List ℕ → ℕ → L4 → Type 0
SaysIpv4 frame at header = HasSizes frame at × After4 (at + ipv4.header_size frame at) header

told-after : (frame : List ℕ) (x : ℕ) (h : L4) → Told frame (network.Ipv4 x (ipv4.ipv4 frame x)) h → After4 (x + ipv4.header_size frame x) h
unfolding ipv4.ipv4
told-after frame x l4.None t = tt
told-after frame x (l4.Tcp at) t = let e = t.begins in omega arith
told-after frame x (l4.Udp at) t = let e = t.begins in omega arith
told-after frame x (l4.Icmp at) t = let e = t.1.begins in omega arith
told-after frame x (l4.Icmp6 at) t = let e = t.1.begins in omega arith

pub says-ipv4 : (frame : List ℕ) (at : ℕ) → (layout_of frame).l3 ≡ l3.Ipv4 at → SaysIpv4 frame at (layout_of frame).l4
says-ipv4 frame at =
    by_length 0 frame (λ key layout. layout.l3 ≡ l3.Ipv4 at → SaysIpv4 frame at layout.l4) (λ short e. absurd cc)
    (λ whole. by_network frame (carried frame).dl_type (carried frame).at (λ n. place_of_network n ≡ l3.Ipv4 at → SaysIpv4 frame at (transport n))
    (λ e. absurd cc) (λ t h e. absurd cc)
    (λ t h e. let same : (carried frame).at ≡ at = cc in by (carried frame).at at same (transport (network.Ipv4 (carried frame).at (ipv4.ipv4 frame (carried frame).at)))
    (is_ipv4-HasSizes frame (carried frame).at h)
    (told-after frame (carried frame).at (transport (network.Ipv4 (carried frame).at (ipv4.ipv4 frame (carried frame).at)))
    (transport-tells frame (network.Ipv4 (carried frame).at (ipv4.ipv4 frame (carried frame).at)))))
    (λ t d h e. absurd cc))
  where
    by : (x y : ℕ) → x ≡ y → (h : L4) → HasSizes frame x → After4 (x + ipv4.header_size frame x) h → SaysIpv4 frame y h
    by x y e h s t = subst (λ (z : ℕ). SaysIpv4 frame z h) e (s, t)

pub shown-after : (end : ℕ) (part : Fragment) (h : L4) → After4 end h → After4 end (shown part h)
shown-after end Whole h c = c
shown-after end First h c = tt
shown-after end Later h c = tt

-- ---- checksums after the header

abbrev pub SumsAfter : ℕ → List Sum → Type 0
SumsAfter end [] = Unit {0}
SumsAfter end (s ∷ sums) = (end ≤ s.at) × SumsAfter end sums

pub address_sum-after : (end : ℕ) (n : L3) (h : L4) → After4 end h → SumsAfter end (address_sum n h)
address_sum-after end n l4.None l = tt
address_sum-after end n (l4.Tcp x) l = (omega arith, tt)
address_sum-after end (l3.Ipv4 at) (l4.Udp x) l = (omega arith, tt)
address_sum-after end n (l4.Udp x) l = (omega arith, tt)
address_sum-after end n (l4.Icmp x) l = tt
address_sum-after end n (l4.Icmp6 x) l = (omega arith, tt)

pub corrected-before : (sums : List Sum) (p : Place) (before now : List ℕ) (end : ℕ) → SumsFit now sums → SumsAfter end sums
    → (i : ℕ) → i < end → slice_index (corrected sums p before now) i ≡ slice_index now i
unfolding corrected
corrected-before [] p before now end fit after i l = refl
corrected-before (s ∷ sums) p before now end fit after i l =
    let v = followed s.zero_says p.words p.word_at before now (big_endian_at 2 before s.at) in
    let e = with_number-length 2 now s.at v fit.0 in
    corrected-before sums p before (with_number 2 now s.at v) end (fit-moved now (with_number 2 now s.at v) e sums fit.1) after.1 i l
    ∙ with_number-before 2 now s.at v fit.0 i (omega (arith, l, after.0))

-- checksums that are none of the bytes that a key shows of a transport header
abbrev pub Clear : List Sum → L4 → Type 0
Clear sums l4.None = Unit {0}
Clear sums (l4.Tcp x) = SumsAfter (x + 4) sums
Clear sums (l4.Udp x) = SumsAfter (x + 4) sums
Clear sums (l4.Icmp x) = SumsAfter (x + 2) sums
Clear sums (l4.Icmp6 x) = SumsAfter (x + 2) sums

pub clear-addresses : (n : L3) (h : L4) → Clear (address_sum n h) h
clear-addresses n l4.None = tt
clear-addresses n (l4.Tcp x) = (omega arith, tt)
clear-addresses (l3.Ipv4 at) (l4.Udp x) = (omega arith, tt)
clear-addresses n (l4.Udp x) = (omega arith, tt)
clear-addresses n (l4.Icmp x) = tt
clear-addresses n (l4.Icmp6 x) = (omega arith, tt)

pub clear-none : (h : L4) → Clear [] h
clear-none l4.None = tt
clear-none (l4.Tcp x) = tt
clear-none (l4.Udp x) = tt
clear-none (l4.Icmp x) = tt
clear-none (l4.Icmp6 x) = tt

pub shown-clear : (sums : List Sum) (part : Fragment) (h : L4) → Clear sums h → Clear sums (shown part h)
shown-clear sums Whole h c = c
shown-clear sums First h c = tt
shown-clear sums Later h c = tt

-- ---- what a key shows of the transport header

-- the two numbers of a transport header
abbrev pub source_in : List ℕ → L4 → ℕ
source_in frame l4.None = 0
source_in frame (l4.Tcp at) = big_endian_at 2 frame at
source_in frame (l4.Udp at) = big_endian_at 2 frame at
source_in frame (l4.Icmp at) = slice_index frame at
source_in frame (l4.Icmp6 at) = slice_index frame at

abbrev pub destination_in : List ℕ → L4 → ℕ
destination_in frame l4.None = 0
destination_in frame (l4.Tcp at) = big_endian_at 2 frame (at + 2)
destination_in frame (l4.Udp at) = big_endian_at 2 frame (at + 2)
destination_in frame (l4.Icmp at) = slice_index frame (at + 1)
destination_in frame (l4.Icmp6 at) = slice_index frame (at + 1)

-- two frames with the same bytes from an offset on, up to the checksums
module _ (a b : List ℕ) (from : ℕ) (sums : List Sum)
    (same : (end : ℕ) → SumsAfter end sums → (i : ℕ) → from ≤ i → i < end → slice_index b i ≡ slice_index a i) where
  pub source-same : (h : L4) → After4 from h → Clear sums h → source_in b h ≡ source_in a h
  source-same l4.None l c = refl
  source-same (l4.Tcp x) l c = number-same a b 2 x (λ i m n. same (x + 4) c i (omega arith) (omega arith))
  source-same (l4.Udp x) l c = number-same a b 2 x (λ i m n. same (x + 4) c i (omega arith) (omega arith))
  source-same (l4.Icmp x) l c = same (x + 2) c x l (omega arith)
  source-same (l4.Icmp6 x) l c = same (x + 2) c x l (omega arith)

  pub destination-same : (h : L4) → After4 from h → Clear sums h → destination_in b h ≡ destination_in a h
  destination-same l4.None l c = refl
  destination-same (l4.Tcp x) l c = number-same a b 2 (x + 2) (λ i m n. same (x + 4) c i (omega arith) (omega arith))
  destination-same (l4.Udp x) l c = number-same a b 2 (x + 2) (λ i m n. same (x + 4) c i (omega arith) (omega arith))
  destination-same (l4.Icmp x) l c = same (x + 2) c (x + 1) (omega arith) (omega arith)
  destination-same (l4.Icmp6 x) l c = same (x + 2) c (x + 1) (omega arith) (omega arith)
