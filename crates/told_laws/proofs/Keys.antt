-- The key of a frame that came in at one of the ports is one that a difference tells of.
use Rattle.std.proofs.Common.{◌≡◌, ◌≢◌, ◌⊎◌, inl, inr, ℕ, zero, suc, ◌+◌, ◌-◌, ◌^◌, ◌<◌, ◌≤◌, ◌&&◌, ◌||◌, ◌==◌, nat_eq, Bool, true, false, List, [], ◌∷◌, length, map, replicate, set, bit_and, All, refl, sym, ap, ap₂, ◌∙◌, subst, arith}
use Rattle.std.specs.List.{IsDistinct, AllByRecursion, list_any}
use Rattle.std.proofs.Math.Nat.{mod-eq_of_lt}
use Rattle.std.proofs.lemmas.Nat.{and_mask}
use Rattle.std.specs.Int.Bits.{and_zero_r}
use Rattle.std.proofs.lemmas.Bool.{cases_eq, cases_lt, eq-eqb, eqb-true, ne_eqb}
use Rattle.std.proofs.lemmas.List.Elements.{All-head, All-tail}
use Rattle.spec_pcap.specs.Pcap.{Frame}
use Rattle.spec_keys.specs.declared.field_id.FieldId.TheVariants.{InPort}
use Rattle.spec_keys.specs.Fields.{field_count}
use Rattle.spec_keys.specs.Keys.{value_of, none, masked, same, IsKey, IsClean}
use Rattle.spec_frames.specs.declared.headers.Datagram.{Datagram}
use Rattle.spec_frames.specs.declared.headers.Network.{Network}
use Rattle.spec_frames.specs.declared.headers.Network.TheVariants.{Nothing, Arp, Ipv4, Ipv6}
use Rattle.spec_frames.specs.declared.layout.L4.{L4}
use Rattle.spec_frames.specs.declared.layout.L4.TheVariants as transport
use Rattle.spec_frames.specs.Network.{network}
use Rattle.spec_frames.specs.Key.{with_datagram, with_transport, with_network, key_of}
use Rattle.spec_tables.specs.Rules.{is_matched}
use Rattle.spec_case.specs.Run.{Run, frames_of}
use Rattle.spec_board.specs.Results.{key_at}
use Rattle.spec_tools.specs.Classes.{IsFrameKey, one_if, holding, from_port}
use Rattle.table_laws.proofs.KeyLaws.{same_refl}
use Rattle.frame_laws.proofs.keys.Forms.{Tags, no_tags, tags_of, ethernet_key, with_addresses, by_length}
use Rattle.board_laws.specs.Entries.{AreOfBytes}
use Rattle.board_laws.proofs.Kept.{keys_of_bytes, key_clean}

-- ---- where a packet came in

by_transport : (frame : List ℕ) (h : L4) (d : Datagram) (port source destination dl_type : ℕ) (t : Tags) (nw_src nw_dst ipv6_src ipv6_dst : ℕ)
    → value_of (with_transport frame h (with_datagram d (with_addresses nw_src nw_dst ipv6_src ipv6_dst (ethernet_key port source destination dl_type t)))) InPort ≡ port
unfolding with_transport none
by_transport frame transport.None d port source destination dl_type t nw_src nw_dst ipv6_src ipv6_dst = refl
by_transport frame (transport.Tcp at) d port source destination dl_type t nw_src nw_dst ipv6_src ipv6_dst = refl
by_transport frame (transport.Udp at) d port source destination dl_type t nw_src nw_dst ipv6_src ipv6_dst = refl
by_transport frame (transport.Icmp at) d port source destination dl_type t nw_src nw_dst ipv6_src ipv6_dst = refl
by_transport frame (transport.Icmp6 at) d port source destination dl_type t nw_src nw_dst ipv6_src ipv6_dst = refl

by_network : (frame : List ℕ) (n : Network) (port source destination dl_type : ℕ) (t : Tags)
    → value_of (with_network frame n (ethernet_key port source destination dl_type t)) InPort ≡ port
unfolding with_network none
by_network frame Nothing port source destination dl_type t = refl
by_network frame (Arp at) port source destination dl_type t = refl
by_network frame (Ipv4 at d) port source destination dl_type t = by_transport frame _ d port source destination dl_type t _ _ 0 0
by_network frame (Ipv6 at d) port source destination dl_type t = by_transport frame _ d port source destination dl_type t 0 0 _ _

in_port_is : (port : ℕ) (frame : List ℕ) → value_of (key_of port frame) InPort ≡ port
in_port_is port frame =
    by_length port frame (λ key layout. value_of key InPort ≡ port) (λ short. by_network frame Nothing port 0 0 0 no_tags)
    (λ whole. by_network frame (network frame) port _ _ _ (tags_of frame))

-- ---- the packets of a port

masked-zeros : (xs : List ℕ) (n : ℕ) → masked xs (replicate n 0) ≡ replicate (length xs) 0
unfolding masked
masked-zeros [] n = refl
masked-zeros (x ∷ xs) zero = ap (λ (l : List ℕ). 0 ∷ l) (masked-zeros xs zero)
masked-zeros (x ∷ xs) (suc n) = ap₂ (λ (y : ℕ) (l : List ℕ). y ∷ l) (and_zero_r x) (masked-zeros xs n)

and_true : (t : Bool) → (t && true) ≡ t
and_true true = refl
and_true false = refl

-- the fields after that of the port
abbrev others : ℕ
others = 36

low_bits : (n : ℕ) → n < 2 ^ 16 → bit_and n 65535 ≡ n
low_bits n small = and_mask n 16 ∙ mod-eq_of_lt small

from_port-first : (x port : ℕ) (xs : List ℕ) → length xs ≡ others → x < 2 ^ 16 → port < 2 ^ 16 → is_matched (x ∷ xs) (from_port port) ≡ (x == port)
unfolding masked same none
from_port-first x port xs count small port_small =
    ap₂ (λ (a b : ℕ). (a == b) && same (masked xs (replicate others 0)) (masked (replicate others 0) (replicate others 0))) (low_bits x small) (low_bits port port_small)
    ∙ ap (λ (t : Bool). (x == port) && t) rest ∙ and_true (x == port)
  where
    alike : masked xs (replicate others 0) ≡ masked (replicate others 0) (replicate others 0)
    alike = masked-zeros xs others ∙ ap (λ n. replicate n 0) count ∙ sym (masked-zeros (replicate others 0) others)

    rest : same (masked xs (replicate others 0)) (masked (replicate others 0) (replicate others 0)) ≡ true
    rest = ap (λ (l : List ℕ). same l (masked (replicate others 0) (replicate others 0))) alike ∙ same_refl (masked (replicate others 0) (replicate others 0))

from_port_is : (key : List ℕ) (port : ℕ) → length key ≡ field_count → value_of key InPort < 2 ^ 16 → port < 2 ^ 16
    → is_matched key (from_port port) ≡ (value_of key InPort == port)
from_port_is [] port count small port_small = absurd (cc count)
from_port_is (x ∷ xs) port count small port_small = from_port-first x port xs (omega (arith, count)) small port_small

module _ (key : List ℕ) (of_key : length key ≡ field_count) (small : value_of key InPort < 2 ^ 16) where
  abbrev port_of : ℕ
  port_of = value_of key InPort

  held_nowhere : (ports : List ℕ) → All (λ p. p < 2 ^ 16) ports → AllByRecursion (λ q. nat_eq port_of q ≡ false) ports → holding key (map from_port ports) ≡ 0
  held_nowhere [] within differ = refl
  held_nowhere (p ∷ ps) within differ =
      ap₂ (λ (t : Bool) (n : ℕ). one_if t + n) (from_port_is key p of_key small (All-head (λ p. p < 2 ^ 16) p ps within) ∙ differ.0)
      (held_nowhere ps (All-tail (λ p. p < 2 ^ 16) p ps within) differ.1)

  held_once : (ports : List ℕ) → All (λ p. p < 2 ^ 16) ports → IsDistinct nat_eq ports → list_any (λ p. p == port_of) ports ≡ true → holding key (map from_port ports) ≡ 1
  unfolding IsDistinct
  held_once [] within distinct there = absurd (cc there)
  held_once (p ∷ ps) within distinct there = at (cases_eq p port_of) there (held_once ps (All-tail (λ p. p < 2 ^ 16) p ps within) distinct.1)
    where
      first : is_matched key (from_port p) ≡ (port_of == p)
      first = from_port_is key p of_key small (All-head (λ p. p < 2 ^ 16) p ps within)

      at : (p ≡ port_of) ⊎ (p ≢ port_of) → ((p == port_of) || list_any (λ p. p == port_of) ps) ≡ true
          → (list_any (λ p. p == port_of) ps ≡ true → holding key (map from_port ps) ≡ 1) → holding key (map from_port (p ∷ ps)) ≡ 1
      at (inl e) there later =
          ap₂ (λ (t : Bool) (n : ℕ). one_if t + n) (first ∙ eq-eqb port_of p (sym e))
          (held_nowhere ps (All-tail (λ p. p < 2 ^ 16) p ps within) (subst (λ (x : ℕ). AllByRecursion (λ q. nat_eq x q ≡ false) ps) e distinct.0))
      at (inr ne) there later =
          ap₂ (λ (t : Bool) (n : ℕ). one_if t + n) (first ∙ ne_eqb port_of p (λ e. ne (sym e)))
          (later (ap (λ (t : Bool). t || list_any (λ p. p == port_of) ps) (sym (ne_eqb p port_of ne)) ∙ there))

-- ---- the frame of a place

module _ (run : Run) (port : ℕ) (of_port : AreOfBytes run port) where
  pub is_frame_key : (place : ℕ) → 1 ≤ place → IsFrameKey (key_at run port place)
  is_frame_key place first = record {
    is_key = keys_of_bytes run port of_port (place + 1) place first (omega arith);
    clean = key_clean run port place;
  }

  pub is_held_once : (place : ℕ) → 1 ≤ place → All (AreOfBytes run) run.ports → IsDistinct nat_eq run.ports → list_any (λ p. p == port) run.ports ≡ true
      → holding (key_at run port place) (map from_port run.ports) ≡ 1
  is_held_once place first each distinct there =
      let is : value_of (key_at run port place) InPort ≡ port = in_port_is port _ in
      held_once (key_at run port place) (is_frame_key place first).is_key.fields (subst (λ (p : ℕ). p < 2 ^ 16) (sym is) of_port.of_16_bits) run.ports
      (λ k d within. (each k d within).of_16_bits) distinct (subst (λ (p : ℕ). list_any (λ q. q == p) run.ports ≡ true) (sym is) there)
