-- The forms that the key and the layout of a frame can have.
use Rattle.std.proofs.Common.{◌≡◌, ℕ, ◌<◌, ◌≤◌, ◌==◌, Bool, true, false, if◌then◌else◌, List, length, Option, Some, None, ◌⊎◌, inl, inr, refl, ap, ◌∙◌}
use Rattle.std.proofs.lemmas.Bool.{cases_lt, lt-ltb, le-ltb, cond-true, cond-false, cond_both, eqb-true}
use Rattle.spec_base.specs.Bytes.{big_endian_at}
use Rattle.spec_keys.specs.declared.field_id.FieldId.TheVariants.{InPort, DlSrc, DlDst, DlType, VlanTci, VlanTpid, VlanTci2, VlanTpid2, NwSrc, NwDst, Ipv6Src, Ipv6Dst}
use Rattle.spec_keys.specs.Keys.{none}
use Rattle.spec_keys.specs.Protocols.{arp_type, ipv4_type, ipv6_type}
use Rattle.spec_frames.specs.declared.headers.Datagram.{Datagram}
use Rattle.spec_frames.specs.declared.headers.Network.{Network}
use Rattle.spec_frames.specs.declared.headers.Network.TheVariants.{Nothing, Arp, Ipv4, Ipv6}
use Rattle.spec_frames.specs.declared.layout.Layout.{Layout}
use Rattle.spec_frames.specs.Ethernet.{address_size, source_at, header_size, type_at, inner_at, tag_count, tpid_at, tci_at, carried}
use Rattle.spec_frames.specs.Arp.{is_arp}
use Rattle.spec_frames.specs.Ipv4 as ipv4
use Rattle.spec_frames.specs.Ipv6 as ipv6
use Rattle.spec_frames.specs.Network.{by_ipv6, network_at, network}
use Rattle.spec_frames.specs.Transport.{transport}
use Rattle.spec_frames.specs.Layout.{layout_with, layout_of}
use Rattle.spec_frames.specs.Key.{with_value, with_outer_tag, with_inner_tag, with_ethernet, with_network, key_of}
use Rattle.frame_laws.specs.KeysHeaders.{no_headers}

-- the types and contents of the tags of a key
pub record Tags : Type 0 where
  pub tci : ℕ
  pub tpid : ℕ
  pub tci2 : ℕ
  pub tpid2 : ℕ

abbrev pub no_tags : Tags
no_tags = record { tci = 0; tpid = 0; tci2 = 0; tpid2 = 0 }

-- those of a frame, by whether it has none, and whether it has one alone
abbrev pub tags_by : List ℕ → Bool → Bool → Tags
tags_by frame none one = record {
  tci = if none then 0 else tci_at frame type_at;
  tpid = if none then 0 else tpid_at frame type_at;
  tci2 = if none then 0 else (if one then 0 else tci_at frame inner_at);
  tpid2 = if none then 0 else (if one then 0 else tpid_at frame inner_at);
}

abbrev pub tags_of : List ℕ → Tags
tags_of frame = tags_by frame (tag_count frame == 0) (tag_count frame == 1)

-- a key with nothing but what the Ethernet header says
abbrev pub ethernet_key : (port source destination dl_type : ℕ) → Tags → List ℕ
ethernet_key port source destination dl_type t =
    with_value DlType dl_type (with_value VlanTci2 t.tci2 (with_value VlanTpid2 t.tpid2 (with_value VlanTci t.tci (with_value VlanTpid t.tpid
    (with_value DlSrc source (with_value DlDst destination (with_value InPort port none)))))))

-- that of a frame
abbrev pub ethernet_of : ℕ → List ℕ → List ℕ
ethernet_of port frame =
    ethernet_key port (big_endian_at address_size frame source_at) (big_endian_at address_size frame 0) (carried frame).dl_type (tags_of frame)

with_ethernet-key : (port : ℕ) (frame : List ℕ) → with_ethernet frame (with_value InPort port none) ≡ ethernet_of port frame
unfolding none
with_ethernet-key port frame = at (tag_count frame == 0) (tag_count frame == 1)
  where
    plain : List ℕ
    plain =
        with_value DlSrc (big_endian_at address_size frame source_at) (with_value DlDst (big_endian_at address_size frame 0) (with_value InPort port none))

    at : (n o : Bool)
        → with_value DlType (carried frame).dl_type (if n then plain else (if o then with_outer_tag frame plain else with_inner_tag frame (with_outer_tag frame plain)))
        ≡ ethernet_key port (big_endian_at address_size frame source_at) (big_endian_at address_size frame 0) (carried frame).dl_type (tags_by frame n o)
    at true o = refl
    at false true = refl
    at false false = refl

-- a key with the addresses of IP, of which there are those of one version
abbrev pub with_addresses : (nw_src nw_dst ipv6_src ipv6_dst : ℕ) → List ℕ → List ℕ
with_addresses nw_src nw_dst ipv6_src ipv6_dst key =
    with_value Ipv6Dst ipv6_dst (with_value Ipv6Src ipv6_src (with_value NwDst nw_dst (with_value NwSrc nw_src key)))

-- of a frame without a whole Ethernet header, and of one with it
pub short-key : (port : ℕ) (frame : List ℕ) → length frame < header_size → key_of port frame ≡ with_value InPort port none
unfolding key_of
short-key port frame short = cond-true _ _ _ (lt-ltb (length frame) header_size short)

pub short-layout : (frame : List ℕ) → length frame < header_size → layout_of frame ≡ no_headers
unfolding layout_of transport
short-layout frame short = cond-true _ _ _ (lt-ltb (length frame) header_size short)

pub whole-key : (port : ℕ) (frame : List ℕ) → header_size ≤ length frame → key_of port frame ≡ with_network frame (network frame) (ethernet_of port frame)
unfolding key_of
whole-key port frame whole =
    cond-false _ _ _ (le-ltb (length frame) header_size whole) ∙ ap (with_network frame (network frame)) (with_ethernet-key port frame)

pub whole-layout : (frame : List ℕ) → header_size ≤ length frame → layout_of frame ≡ layout_with (tag_count frame) (network frame)
unfolding layout_of
whole-layout frame whole = cond-false _ _ _ (le-ltb (length frame) header_size whole)

-- what holds of key and layout, if it does in a frame without a whole Ethernet header and in one with it
pub by_length : (port : ℕ) (frame : List ℕ) (P : List ℕ → Layout → Type 0)
    → (length frame < header_size → P (with_network frame Nothing (ethernet_key port 0 0 0 no_tags)) (layout_with 0 Nothing))
    → (header_size ≤ length frame → P (with_network frame (network frame) (ethernet_of port frame)) (layout_with (tag_count frame) (network frame)))
    → P (key_of port frame) (layout_of frame)
unfolding with_network none transport
by_length port frame P short whole = at (cases_lt (length frame) header_size)
  where
    at : (length frame < header_size) ⊎ (header_size ≤ length frame) → P (key_of port frame) (layout_of frame)
    at (inl l) = rw (short-key port frame l, short-layout frame l) (short l)
    at (inr l) = rw (whole-key port frame l, whole-layout frame l) (whole l)

-- what holds of each network header of this type at this offset
pub by_network : (frame : List ℕ) (dl_type at : ℕ) (P : Network → Type 0) → P Nothing
    → (dl_type ≡ arp_type → is_arp frame at ≡ true → P (Arp at))
    → (dl_type ≡ ipv4_type → ipv4.is_ipv4 frame at ≡ true → P (Ipv4 at (ipv4.ipv4 frame at)))
    → (dl_type ≡ ipv6_type → (d : Datagram) → ipv6.ipv6 frame at ≡ Some d → P (Ipv6 at d))
    → P (network_at frame dl_type at)
unfolding network_at
by_network frame dl_type at P nothing arp v4 v6 =
    cond_both (dl_type == arp_type) _ _ P (λ e. cond_both (is_arp frame at) _ _ P (arp (eqb-true dl_type arp_type e)) (λ f. nothing))
    (λ x. cond_both (dl_type == ipv4_type) _ _ P (λ e. cond_both (ipv4.is_ipv4 frame at) _ _ P (v4 (eqb-true dl_type ipv4_type e)) (λ f. nothing))
    (λ y. cond_both (dl_type == ipv6_type) _ _ P (λ e. by (ipv6.ipv6 frame at) (v6 (eqb-true dl_type ipv6_type e))) (λ f. nothing)))
  where
    by : (o : Option Datagram) → ((d : Datagram) → o ≡ Some d → P (Ipv6 at d)) → P (by_ipv6 at o)
    by None h = nothing
    by (Some d) h = h d refl
