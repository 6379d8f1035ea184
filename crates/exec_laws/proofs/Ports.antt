-- A frame with the same bytes up to where its network header has been read has the same network header, and carries the same.
use Rattle.std.proofs.Common.{◌≡◌, ◌≢◌, ℕ, ◌+◌, ◌<◌, ◌≤◌, Bool, true, false, ◌&&◌, ◌==◌, nat_le, if◌then◌else◌, List, length, slice_index, Option, Some, None, option_map, refl, sym, ap, ◌∙◌, arith}
use Rattle.spec_keys.specs.Protocols.{ipv4_type, ipv6_type}
use Rattle.spec_frames.specs.declared.headers.Carried.{Carried}
use Rattle.spec_frames.specs.declared.headers.Datagram.{Datagram}
use Rattle.spec_frames.specs.declared.headers.UpperLayer.{UpperLayer}
use Rattle.spec_frames.specs.declared.headers.Network.{Network}
use Rattle.spec_frames.specs.declared.headers.Network.TheVariants.{Nothing, Arp, Ipv4, Ipv6}
use Rattle.spec_frames.specs.Ethernet.{carried, no_type, header_size}
use Rattle.spec_frames.specs.Ipv4 as ipv4
use Rattle.spec_frames.specs.Ipv6 as ipv6
use Rattle.spec_frames.specs.Ipv6.{upper_layer}
use Rattle.spec_frames.specs.Network.{network_at, network}
use Rattle.frame_laws.proofs.keys.Forms.{by_network}
use Rattle.frame_laws.proofs.HeaderLaws.{IsPlaced, network-IsPlaced, carried-least}
use Rattle.exec_laws.proofs.Replacing.{number-same}
use Rattle.exec_laws.proofs.Kept.{carried-kept}
use Rattle.exec_laws.proofs.Below.{upper_layer-kept}

-- where what a network header says has been read
abbrev pub limit : Network → ℕ
limit Nothing = 0
limit (Arp at) = at + 28
limit (Ipv4 at d) = d.upper.at
limit (Ipv6 at d) = d.upper.at

abbrev pub IsIp : Network → Type 0
IsIp Nothing = ⊥
IsIp (Arp at) = ⊥
IsIp (Ipv4 at d) = Unit {0}
IsIp (Ipv6 at d) = Unit {0}

pub some-same : (x d : Datagram) → Some x ≡ Some d → x ≡ d
some-same x d e = cc

pub from-some : (d : Datagram) (w : UpperLayer → Datagram) → ((u : UpperLayer) → (w u).upper ≡ u) → (t : Bool) (o : Option UpperLayer)
    → (if t then option_map w o else None) ≡ Some d → o ≡ Some d.upper
from-some d w h true (Some u) e = ap Some (sym (h u) ∙ ap (λ (x : Datagram). x.upper) (some-same (w u) d e))
from-some d w h true None e = absurd cc
from-some d w h false o e = absurd cc

module _ (a b : List ℕ) (sized : length b ≡ length a) where
  ipv6-kept : (at : ℕ) (d : Datagram) → ipv6.ipv6 a at ≡ Some d → at + 40 ≤ d.upper.at → ((i : ℕ) → i < d.upper.at → slice_index b i ≡ slice_index a i)
      → ipv6.ipv6 b at ≡ Some d
  unfolding ipv6.ipv6
  ipv6-kept at d e l same =
      let upper = from-some d (λ u. record { tos = ipv6.traffic_class a at; ttl = slice_index a (at + 7); end = ipv6.end_of a at; upper = u }) (λ u. refl)
      (nat_le (at + 40) (length a) && (ipv4.version a at == 6)) (upper_layer 8 a (ipv6.end_of a at) (slice_index a (at + 6)) (at + 40)) e in
      let kept = upper_layer-kept a b 8 (ipv6.end_of a at) (slice_index a (at + 6)) (at + 40) d.upper upper (λ i m n. same i n) ∙ sym upper in
      rw (
        sized,
        same at (omega (arith, l)),
        number-same a b 2 (at + 4) (λ i m n. same i (omega (arith, l, n))),
        number-same a b 2 at (λ i m n. same i (omega (arith, l, n))),
        same (at + 7) (omega (arith, l)),
        same (at + 6) (omega (arith, l)),
        kept,
      ) e

  ipv4-kept : (at : ℕ) → ((i : ℕ) → i < at + 20 → slice_index b i ≡ slice_index a i)
      → (ipv4.is_ipv4 b at ≡ ipv4.is_ipv4 a at) × (ipv4.ipv4 b at ≡ ipv4.ipv4 a at)
  unfolding ipv4.is_ipv4 ipv4.ipv4
  ipv4-kept at same =
      let first = same at (omega arith) in
      let sizes = number-same a b 2 (at + 2) (λ i m n. same i (omega (arith, n))) in (
        rw (sized, first, sizes) refl,
        rw (sized, first, sizes, same (at + 1) (omega arith), same (at + 8) (omega arith), same (at + 9) (omega arith), number-same a b 2 (at + 6) (λ i m n. same i (omega (arith, n)))) refl,
      )

  record Kept (n : Network) : Type 0 where
    type_after : (carried a).at ≤ limit n
    some_type : (carried a).dl_type ≢ no_type
    network_at-same : network_at b (carried a).dl_type (carried a).at ≡ n

  as_ipv4 : (at : ℕ) → ipv4.is_ipv4 b at ≡ true → network_at b ipv4_type at ≡ Ipv4 at (ipv4.ipv4 b at)
  unfolding network_at
  as_ipv4 at e = rw e refl

  as_ipv6 : (at : ℕ) (d : Datagram) → ipv6.ipv6 b at ≡ Some d → network_at b ipv6_type at ≡ Ipv6 at d
  unfolding network_at
  as_ipv6 at d e = rw e refl

  kept : IsIp (network a) → ((i : ℕ) → i < limit (network a) → slice_index b i ≡ slice_index a i) → Kept (network a)
  kept ip same =
      by_network a (carried a).dl_type (carried a).at (λ n. IsPlaced a n → IsIp n → ((i : ℕ) → i < limit n → slice_index b i ≡ slice_index a i) → Kept n)
      (λ p i s. absurd i) (λ t h p i s. absurd i)
      (λ t h p i s.
      let k = ipv4-kept (carried a).at (λ i l. s i (omega (arith, p.1, l))) in
      record {
        type_after = omega (arith, p.1);
        some_type = λ e. absurd (omega (arith, e, t));
        network_at-same = ap (λ (z : ℕ). network_at b z (carried a).at) t ∙ as_ipv4 (carried a).at (k.0 ∙ h) ∙ ap (Ipv4 (carried a).at) k.1;
      })
      (λ t d h p i s. record {
        type_after = omega (arith, p.1);
        some_type = λ e. absurd (omega (arith, e, t));
        network_at-same = ap (λ (z : ℕ). network_at b z (carried a).at) t ∙ as_ipv6 (carried a).at d (ipv6-kept (carried a).at d h p.1 s);
      })
      (network-IsPlaced a) ip same

  pub network-kept : (ip : IsIp (network a)) (same : (i : ℕ) → i < limit (network a) → slice_index b i ≡ slice_index a i)
      → (network b ≡ network a) × (carried b ≡ carried a) × (header_size ≤ limit (network a)) × ((carried a).at ≤ limit (network a))
  network-kept ip same =
      let k = kept ip same in
      let after = k.type_after in
      let c = carried-kept a b (limit (network a)) sized same after (omega (arith, carried-least a)) k.some_type in
      (ap (λ (c : Carried). network_at b c.dl_type c.at) c ∙ k.network_at-same, c, omega (arith, carried-least a), after)
