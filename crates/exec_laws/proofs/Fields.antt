-- Fields of a key of a given form, and what is put into them.
use Rattle.std.proofs.Common.{◌≡◌, ℕ, ◌*◌, ◌/◌, ◌%◌, ◌^◌, ◌<◌, List, bit_and, bit_xor, refl, sym, ap, ap₂, ◌∙◌, arith}
use Rattle.std.proofs.lemmas.Nat.{and_mask, xor_lt, and_le_r, xor_shr, and_shr, xor_mod, and_mod, xor_comm, shl-shr}
use Rattle.std.proofs.Math.Nat.{mod-eq_of_lt}
use Rattle.spec_base.specs.Bits.{all_bits, merged}
use Rattle.spec_keys.specs.declared.field_id.FieldId.TheVariants.{DlSrc, DlDst, IpFrag}
use Rattle.spec_keys.specs.Keys.{none, value_of}
use Rattle.spec_frames.specs.declared.headers.Datagram.{Datagram}
use Rattle.spec_frames.specs.declared.headers.Network.{Network}
use Rattle.spec_frames.specs.declared.headers.Network.TheVariants.{Nothing, Arp, Ipv4, Ipv6}
use Rattle.spec_frames.specs.declared.layout.L4.{L4}
use Rattle.spec_frames.specs.declared.layout.L4.TheVariants as l4
use Rattle.spec_frames.specs.Ipv4 as ipv4
use Rattle.spec_frames.specs.Ipv6 as ipv6
use Rattle.spec_frames.specs.Transport.{transport}
use Rattle.spec_frames.specs.Key.{with_value, shown, with_datagram, with_transport, with_network}
use Rattle.spec_xlate.specs.Tags.{VlanTag, outer_tag, inner_tag, with_tags}
use Rattle.frame_laws.proofs.keys.Forms.{Tags, ethernet_key, with_addresses}

-- ---- tags

-- the outer and the inner tag of those of a key
abbrev pub outer_of : Tags → VlanTag
outer_of t = record { tpid = t.tpid; tci = t.tci }

abbrev pub inner_of : Tags → VlanTag
inner_of t = record { tpid = t.tpid2; tci = t.tci2 }

-- ---- fields

-- what a key says of Ethernet, whatever its other fields are
pub record SaysEthernet (with : (source destination : ℕ) → Tags → List ℕ) (source destination : ℕ) (t : Tags) : Type 0 where
  pub dl_src : value_of (with source destination t) DlSrc ≡ source
  pub dl_dst : value_of (with source destination t) DlDst ≡ destination
  pub outer : outer_tag (with source destination t) ≡ outer_of t
  pub inner : inner_tag (with source destination t) ≡ inner_of t
  pub other_src : (v : ℕ) → with v destination t ≡ with_value DlSrc v (with source destination t)
  pub other_dst : (v : ℕ) → with source v t ≡ with_value DlDst v (with source destination t)
  pub same_part : (u : Tags) → value_of (with source destination u) IpFrag ≡ value_of (with source destination t) IpFrag
  pub other_tags : (u : Tags) → with source destination u ≡ with_tags (outer_of u) (inner_of u) (with source destination t)

abbrev pub keyed : List ℕ → Network → ℕ → ℕ → (source destination : ℕ) → Tags → List ℕ
keyed frame n port dl_type source destination t = with_network frame n (ethernet_key port source destination dl_type t)

transport-says : (frame : List ℕ) (h : L4) (d : Datagram) (port dl_type nw_src nw_dst ipv6_src ipv6_dst source destination : ℕ) (t : Tags)
    → SaysEthernet (λ x y z. with_transport frame h (with_datagram d (with_addresses nw_src nw_dst ipv6_src ipv6_dst (ethernet_key port x y dl_type z)))) source destination t
unfolding with_transport none
transport-says frame l4.None d port dl_type a b c e source destination t =
    record { dl_src = refl; dl_dst = refl; outer = refl; inner = refl; other_src = λ v. refl; other_dst = λ v. refl; same_part = λ u. refl; other_tags = λ u. refl }
transport-says frame (l4.Tcp at) d port dl_type a b c e source destination t =
    record { dl_src = refl; dl_dst = refl; outer = refl; inner = refl; other_src = λ v. refl; other_dst = λ v. refl; same_part = λ u. refl; other_tags = λ u. refl }
transport-says frame (l4.Udp at) d port dl_type a b c e source destination t =
    record { dl_src = refl; dl_dst = refl; outer = refl; inner = refl; other_src = λ v. refl; other_dst = λ v. refl; same_part = λ u. refl; other_tags = λ u. refl }
transport-says frame (l4.Icmp at) d port dl_type a b c e source destination t =
    record { dl_src = refl; dl_dst = refl; outer = refl; inner = refl; other_src = λ v. refl; other_dst = λ v. refl; same_part = λ u. refl; other_tags = λ u. refl }
transport-says frame (l4.Icmp6 at) d port dl_type a b c e source destination t =
    record { dl_src = refl; dl_dst = refl; outer = refl; inner = refl; other_src = λ v. refl; other_dst = λ v. refl; same_part = λ u. refl; other_tags = λ u. refl }

pub network-says : (frame : List ℕ) (n : Network) (port dl_type source destination : ℕ) (t : Tags) → SaysEthernet (keyed frame n port dl_type) source destination t
unfolding with_network none
network-says frame Nothing port dl_type source destination t =
    record { dl_src = refl; dl_dst = refl; outer = refl; inner = refl; other_src = λ v. refl; other_dst = λ v. refl; same_part = λ u. refl; other_tags = λ u. refl }
network-says frame (Arp at) port dl_type source destination t =
    record { dl_src = refl; dl_dst = refl; outer = refl; inner = refl; other_src = λ v. refl; other_dst = λ v. refl; same_part = λ u. refl; other_tags = λ u. refl }
network-says frame (Ipv4 at d) port dl_type source destination t =
    transport-says frame (shown d.upper.fragment (transport (Ipv4 at d))) d port dl_type (ipv4.source frame at) (ipv4.destination frame at) 0 0 source destination t
network-says frame (Ipv6 at d) port dl_type source destination t =
    transport-says frame (shown d.upper.fragment (transport (Ipv6 at d))) d port dl_type 0 0 (ipv6.source frame at) (ipv6.destination frame at) source destination t

-- ---- bits

pub merged-lt : (k number value mask : ℕ) → number < 2 ^ k → mask < 2 ^ k → merged number value mask < 2 ^ k
merged-lt k number value mask l m = xor_lt k number (bit_and (bit_xor number value) mask) l (omega (arith, m, and_le_r (bit_xor number value) mask))

pub mask-fits : (k mask : ℕ) → mask < 2 ^ k → bit_and mask (all_bits k) ≡ mask
mask-fits k mask l = and_mask mask k ∙ mod-eq_of_lt l

pub unit_one : (v : ℕ) → v * 1 ≡ v
unit_one v = omega arith

-- ---- bits at a place of 16 times their weight

pub merged-shifted : (w value mask : ℕ) → merged w (value * 16) (mask * 16) / 16 ≡ merged (w / 16) value mask
merged-shifted w value mask =
    xor_shr w (bit_and (bit_xor w (value * 16)) (mask * 16)) 4
    ∙ ap (bit_xor (w / 16)) (and_shr (bit_xor w (value * 16)) (mask * 16) 4
    ∙ ap₂ bit_and (xor_shr w (value * 16) 4 ∙ ap (bit_xor (w / 16)) (shl-shr value 4)) (shl-shr mask 4))

-- the bits of a mask are those that it has below a power of two
below-mask : (k x mask : ℕ) → mask < 2 ^ k → bit_and x mask ≡ bit_and (x % 2 ^ k) mask
below-mask k x mask m =
    let less = and_le_r x mask in
    sym (mod-eq_of_lt (omega (arith, less, m))) ∙ and_mod x mask k ∙ ap (bit_and (x % 2 ^ k)) (mod-eq_of_lt m)

pub merged-cut : (q value mask : ℕ) → mask < 256 → merged q value mask % 256 ≡ merged (q % 256) value mask
merged-cut q value mask m =
    let rest : q % 256 % 256 ≡ q % 256 = omega arith in
    xor_mod q (bit_and (bit_xor q value) mask) 8
    ∙ ap (bit_xor (q % 256)) (and_mod (bit_xor q value) mask 8
    ∙ ap₂ bit_and (xor_mod q value 8 ∙ ap (λ (z : ℕ). bit_xor z (value % 256)) (sym rest) ∙ sym (xor_mod (q % 256) value 8)) (mod-eq_of_lt m)
    ∙ sym (below-mask 8 (bit_xor (q % 256) value) mask m))

pub merged-high : (q value mask : ℕ) → mask < 256 → merged q value mask / 256 ≡ q / 256
merged-high q value mask m =
    let none : mask / 256 ≡ 0 = omega arith in
    let less = and_le_r (bit_xor q value / 256) 0 in
    let zero_is : bit_and (bit_xor q value / 256) 0 ≡ 0 = omega arith in
    xor_shr q (bit_and (bit_xor q value) mask) 8
    ∙ ap (bit_xor (q / 256)) (and_shr (bit_xor q value) mask 8 ∙ ap (bit_and (bit_xor q value / 256)) none ∙ zero_is) ∙ xor_comm (q / 256) 0
