-- Fields and checksums stand in a frame as far as its headers do.
use Rattle.std.proofs.Common.{◌≡◌, ℕ, ◌+◌, ◌*◌, ◌≤◌, List, [], ◌∷◌, ◌++◌, Option, Some, None, IfSome, subst, sym, arith}
use Rattle.std.proofs.lemmas.Bool.{cond_both}
use Rattle.spec_keys.specs.declared.field_id.FieldId.{FieldId}
use Rattle.spec_keys.specs.declared.field_id.FieldId.TheVariants.{DlSrc, DlDst, NwSrc, NwDst, Ipv6Src, Ipv6Dst, NwTos, NwTtl, ArpSha, ArpTha, TpSrc, TpDst}
use Rattle.spec_frames.specs.Ethernet.{header_size}
use Rattle.spec_frames.specs.declared.layout.Layout.{Layout}
use Rattle.spec_frames.specs.declared.layout.L3.{L3}
use Rattle.spec_frames.specs.declared.layout.L3.TheVariants as l3
use Rattle.spec_frames.specs.declared.layout.L4.{L4}
use Rattle.spec_frames.specs.declared.layout.L4.TheVariants as l4
use Rattle.spec_frames.specs.Arp as arp
use Rattle.spec_frames.specs.Ipv4 as ipv4
use Rattle.spec_frames.specs.Ipv6 as ipv6
use Rattle.spec_exec.specs.Places as spec
use Rattle.spec_exec.specs.Places.{in_arp, in_ipv4, in_ipv6, in_network, port_at, place_in, ipv4_sum, header_sum, port_sum, address_sum, transport_sum, sums_of}
use Rattle.frame_keys.specs.Within.{IsBefore}
use Rattle.frame_keys.specs.Laid.{NetworkIsBefore, AreBefore}
use Rattle.action_exec.specs.declared.place.Place.{Place}
use Rattle.action_exec.specs.declared.sum.Sum.{Sum}
use Rattle.action_exec.specs.declared.sum.Sums.{Sums}
use Rattle.action_exec.specs.Placed.{placed, listed, all_listed}
use Rattle.action_exec.specs.Following.{PlaceIsBefore, SumsAreBefore}

-- ---- places

module _ (end : ℕ) where
  abbrev Fits : Option spec.Place → Type 0
  Fits place = IfSome place (PlaceIsBefore end)

  whole-before : (at words : ℕ) → at + 2 * words ≤ end → Fits (spec.whole at words)
  whole-before at words l = record { bytes = l; words = l }

  arp-before : (at : ℕ) (f : FieldId) → at + arp.packet_size ≤ end → Fits (in_arp at f)
  arp-before at ArpSha l = whole-before (at + 8) 3 (omega arith)
  arp-before at NwSrc l = whole-before (at + 14) 2 (omega arith)
  arp-before at ArpTha l = whole-before (at + 18) 3 (omega arith)
  arp-before at NwDst l = whole-before (at + 24) 2 (omega arith)
  arp-before at f l = tt

  ipv4-before : (at : ℕ) (f : FieldId) → at + ipv4.least_header_size ≤ end → Fits (in_ipv4 at f)
  ipv4-before at NwTos l = record { bytes = omega arith; words = omega arith }
  ipv4-before at NwTtl l = record { bytes = omega arith; words = omega arith }
  ipv4-before at NwSrc l = whole-before (at + 12) 2 (omega arith)
  ipv4-before at NwDst l = whole-before (at + 16) 2 (omega arith)
  ipv4-before at f l = tt

  ipv6-before : (at : ℕ) (f : FieldId) → at + ipv6.header_size ≤ end → Fits (in_ipv6 at f)
  ipv6-before at NwTos l = record { bytes = omega arith; words = omega arith }
  ipv6-before at NwTtl l = record { bytes = omega arith; words = omega arith }
  ipv6-before at Ipv6Src l = whole-before (at + 8) 8 (omega arith)
  ipv6-before at Ipv6Dst l = whole-before (at + 24) 8 (omega arith)
  ipv6-before at f l = tt

  network-before : (network : L3) (f : FieldId) → NetworkIsBefore end network → Fits (in_network network f)
  network-before l3.None f l = tt
  network-before (l3.Arp at) f l = arp-before at f l
  network-before (l3.Ipv4 at) f l = ipv4-before at f l
  network-before (l3.Ipv6 at) f l = ipv6-before at f l

  port-before : (offset : ℕ) (transport : L4) → offset ≤ 2 → IsBefore end transport → Fits (port_at offset transport)
  port-before offset l4.None o l = tt
  port-before offset (l4.Tcp at) o l = whole-before (at + offset) 1 (omega arith)
  port-before offset (l4.Udp at) o l = whole-before (at + offset) 1 (omega arith)
  port-before offset (l4.Icmp at) o l = tt
  port-before offset (l4.Icmp6 at) o l = tt

  place_in-before : (layout : Layout) (f : FieldId) → header_size ≤ end → AreBefore end layout → Fits (place_in layout f)
  place_in-before layout DlDst l before = whole-before 0 3 (omega arith)
  place_in-before layout DlSrc l before = whole-before 6 3 (omega arith)
  place_in-before layout TpSrc l before = port-before 0 layout.l4 (omega arith) before.transport
  place_in-before layout TpDst l before = port-before 2 layout.l4 (omega arith) before.transport
  place_in-before layout f l before = network-before layout.l3 f before.network

  pub place-before : (layout : Layout) (f : FieldId) (p : Place) → header_size ≤ end → AreBefore end layout → Some (placed p) ≡ place_in layout f
      → PlaceIsBefore end (placed p)
  place-before layout f p l before is = subst Fits (sym is) (place_in-before layout f l before)

  -- ---- checksums

  abbrev AreWithin : List spec.Sum → Type 0
  AreWithin [] = Unit {0}
  AreWithin (s ∷ sums) = (s.at + 2 ≤ end) × AreWithin sums

  ipv4_sum-within : (network : L3) → NetworkIsBefore end network → AreWithin (ipv4_sum network)
  ipv4_sum-within (l3.Ipv4 at) l = (omega arith, tt)
  ipv4_sum-within other l = tt

  header_sum-within : (f : FieldId) (network : L3) → NetworkIsBefore end network → AreWithin (header_sum f network)
  header_sum-within NwSrc network l = ipv4_sum-within network l
  header_sum-within NwDst network l = ipv4_sum-within network l
  header_sum-within NwTos network l = ipv4_sum-within network l
  header_sum-within NwTtl network l = ipv4_sum-within network l
  header_sum-within f network l = tt

  port_sum-within : (network : L3) (transport : L4) → IsBefore end transport → AreWithin (port_sum network transport)
  port_sum-within network (l4.Tcp at) l = (omega arith, tt)
  port_sum-within (l3.Ipv4 begin) (l4.Udp at) l = (omega arith, tt)
  port_sum-within network (l4.Udp at) l = (omega arith, tt)
  port_sum-within network transport l = tt

  address_sum-within : (network : L3) (transport : L4) → IsBefore end transport → AreWithin (address_sum network transport)
  address_sum-within network (l4.Icmp6 at) l = (omega arith, tt)
  address_sum-within network transport l = port_sum-within network transport l

  transport_sum-within : (layout : Layout) (f : FieldId) → IsBefore end layout.l4 → AreWithin (transport_sum layout f)
  transport_sum-within layout NwSrc l = address_sum-within layout.l3 layout.l4 l
  transport_sum-within layout NwDst l = address_sum-within layout.l3 layout.l4 l
  transport_sum-within layout Ipv6Src l = address_sum-within layout.l3 layout.l4 l
  transport_sum-within layout Ipv6Dst l = cond_both layout.routed [] _ AreWithin (λ e. tt) (λ e. address_sum-within layout.l3 layout.l4 l)
  transport_sum-within layout TpSrc l = port_sum-within layout.l3 layout.l4 l
  transport_sum-within layout TpDst l = port_sum-within layout.l3 layout.l4 l
  transport_sum-within layout f l = tt

  both-within : (s t : List spec.Sum) → AreWithin s → AreWithin t → AreWithin (s ++ t)
  both-within [] t a b = b
  both-within (x ∷ s) t a b = (a.0, both-within s t a.1 b)

  listed-before : (header transport : Option Sum) → AreWithin (listed header ++ listed transport)
      → SumsAreBefore end (record { header = header; transport = transport })
  listed-before None None within = record { header = tt; transport = tt }
  listed-before None (Some t) within = record { header = tt; transport = within.0 }
  listed-before (Some h) None within = record { header = within.0; transport = tt }
  listed-before (Some h) (Some t) within = record { header = within.0; transport = within.1.0 }

  pub sums-before : (layout : Layout) (f : FieldId) (sums : Sums) → AreBefore end layout → all_listed sums ≡ sums_of layout f → SumsAreBefore end sums
  sums-before layout f sums before is =
      let within = both-within (header_sum f layout.l3) (transport_sum layout f) (header_sum-within f layout.l3 before.network) (transport_sum-within layout f before.transport) in
      listed-before sums.header sums.transport (subst AreWithin (sym is) within)
