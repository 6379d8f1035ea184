-- What a part needs of the flow is what the name needs under which its field is printed.
use Rattle.std.proofs.Common.{◌≡◌, ℕ, Bool, true, false, cond, refl, sym, subst, ap, ◌∙◌, Option, Some, None, eqb-true}
use Rattle.std.specs.Prelude.{◌&&◌, ◌||◌, ◌==◌}
use Rattle.std.proofs.lemmas.Bool.{and_parts, or_left, or_right, both_ways}
use Rattle.spec_keys.specs.declared.field_id.FieldId.{FieldId}
use Rattle.spec_keys.specs.declared.field_id.FieldId.TheVariants as key
use Rattle.spec_keys.specs.Keys.{value_of}
use Rattle.spec_keys.specs.Protocols.{ipv4_type, ipv6_type, arp_type, icmp_protocol, tcp_protocol, udp_protocol, icmp6_protocol}
use Rattle.spec_tables.specs.Rules.{Match}
use Rattle.spec_flow_text.specs.declared.part.MatchPrerequisite.{MatchPrerequisite}
use Rattle.spec_flow_text.specs.declared.part.MatchPrerequisite.TheVariants as needs
use Rattle.spec_flow_text.specs.declared.shorthand.Shorthand.{Shorthand}
use Rattle.spec_flow_text.specs.declared.shorthand.Shorthand.TheVariants as short
use Rattle.spec_flow_text.specs.Names.{type_stated, protocol_stated}
use Rattle.spec_flow_text.specs.Values.{needs_of, is, is_met}
use Rattle.spec_flow_text.specs.Printed.{bits_of, is_whole, shorthand_of_type, shorthand_of, says_protocol, own_name, name_after_arp, name_after_icmp, name_after}
use Rattle.text_laws.specs.SpelledMatches.{number_stated}
use Rattle.text_laws.proofs.matches.Shorthands.{IsShort, type_short}
use Rattle.text_laws.proofs.round_trips.PartsRead.{IsAddressNeed, IsProtocolNeed, IsPortNeed, MayNeed}

-- ---- the shorthand of a type and a protocol

abbrev pub short_for : Option ℕ → Option ℕ → Option Shorthand
short_for None protocol = None
short_for (Some kind) None = shorthand_of_type kind false 0
short_for (Some kind) (Some protocol) = shorthand_of_type kind true protocol

pub short_of_numbers : (m : Match) → shorthand_of m ≡ short_for (number_stated m key.DlType) (number_stated m key.NwProto)
unfolding shorthand_of
short_of_numbers m = by_tests (is_whole key.DlType (bits_of m key.DlType)) (is_whole key.NwProto (bits_of m key.NwProto))
  where
    by_tests : (t u : Bool) → cond t (shorthand_of_type (value_of m.key key.DlType) u (value_of m.key key.NwProto)) None
        ≡ short_for (cond t (Some (value_of m.key key.DlType)) None) (cond u (Some (value_of m.key key.NwProto)) None)
    by_tests false u = refl
    by_tests true false = refl
    by_tests true true = refl

-- what a shorthand says of both
abbrev pub IsSaid : Option ℕ → Option ℕ → Option Shorthand → Type 0
IsSaid t p None = Unit {0}
IsSaid t p (Some h) = (t ≡ Some (type_stated h)) × (says_protocol (Some h) ≡ true → p ≡ protocol_stated h)

pub short_said : (t p : Option ℕ) → IsSaid t p (short_for t p)
short_said None p = tt
short_said (Some kind) None = by_short (shorthand_of_type kind false 0) (type_short kind false 0)
  where
    by_short : (h : Option Shorthand) → IsShort kind false 0 h → IsSaid (Some kind) None h
    by_short None s = tt
    by_short (Some h) s = (ap Some (sym s.type), λ says. absurd (both_ways false refl (s.whole says)))
short_said (Some kind) (Some protocol) = by_short (shorthand_of_type kind true protocol) (type_short kind true protocol)
  where
    by_short : (h : Option Shorthand) → IsShort kind true protocol h → IsSaid (Some kind) (Some protocol) h
    by_short None s = tt
    by_short (Some h) s = (ap Some (sym s.type), λ says. sym (s.number says))

-- ---- fields with one need

abbrev pub HasOneName : FieldId → Type 0
HasOneName key.NwSrc = ⊥
HasOneName key.NwDst = ⊥
HasOneName key.NwProto = ⊥
HasOneName key.TpSrc = ⊥
HasOneName key.TpDst = ⊥
HasOneName f = Unit {0}

arp_same : (f : FieldId) → HasOneName f → name_after_arp f ≡ own_name f
arp_same key.NwSrc h = absurd h
arp_same key.NwDst h = absurd h
arp_same key.NwProto h = absurd h
arp_same key.TpSrc h = absurd h
arp_same key.TpDst h = absurd h
arp_same f h = refl

icmp_same : (f : FieldId) → HasOneName f → name_after_icmp f ≡ own_name f
icmp_same key.NwSrc h = absurd h
icmp_same key.NwDst h = absurd h
icmp_same key.NwProto h = absurd h
icmp_same key.TpSrc h = absurd h
icmp_same key.TpDst h = absurd h
icmp_same f h = refl

pub one_name : (s : Option Shorthand) (f : FieldId) → HasOneName f → name_after s f ≡ own_name f
one_name (Some short.Arp) f h = arp_same f h
one_name (Some short.Icmp) f h = icmp_same f h
one_name (Some short.Icmp6) f h = icmp_same f h
one_name s f h = refl

-- ---- addresses, and the protocol

abbrev IsCarried : FieldId → Option Shorthand → Option ℕ → Option ℕ → Type 0
IsCarried f h t p = is_met (needs_of (name_after h f)) t p ≡ true

by_type : (kind : ℕ) (n m : MatchPrerequisite) (t p : Option ℕ) → t ≡ Some kind → (is_met n (Some kind) p ≡ true → is_met m (Some kind) p ≡ true) → is_met n t p ≡ true → is_met m t p ≡ true
by_type kind n m t p e f h = subst (λ x. is_met m x p ≡ true) (sym e) (f (subst (λ x. is_met n x p ≡ true) e h))

no_address : (n : MatchPrerequisite) (p : Option ℕ) → IsAddressNeed n → is_met n (Some ipv6_type) p ≡ true → ⊥
no_address needs.Ipv4OrArp p a h = both_ways false refl h
no_address needs.Arp p a h = both_ways false refl h
no_address n p a h = absurd a

address_none : (n : MatchPrerequisite) (t p : Option ℕ) → IsAddressNeed n → is_met n t p ≡ true → is_met needs.Ipv4OrArp t p ≡ true
address_none needs.Ipv4OrArp t p a h = h
address_none needs.Arp t p a h = or_right (is ipv4_type t) (is arp_type t) h
address_none n t p a h = absurd a

address_carried : (h : Option Shorthand) (n : MatchPrerequisite) (t p : Option ℕ) → IsAddressNeed n → IsSaid t p h → is_met n t p ≡ true → IsCarried key.NwSrc h t p
address_carried None n t p a s h = address_none n t p a h
address_carried (Some short.Arp) n t p a s h = by_type arp_type n needs.Arp t p s.0 (λ k. refl) h
address_carried (Some short.Ip) n t p a s h = by_type ipv4_type n needs.Ipv4OrArp t p s.0 (λ k. refl) h
address_carried (Some short.Icmp) n t p a s h = by_type ipv4_type n needs.Ipv4OrArp t p s.0 (λ k. refl) h
address_carried (Some short.Tcp) n t p a s h = by_type ipv4_type n needs.Ipv4OrArp t p s.0 (λ k. refl) h
address_carried (Some short.Udp) n t p a s h = by_type ipv4_type n needs.Ipv4OrArp t p s.0 (λ k. refl) h
address_carried (Some short.Ipv6) n t p a s h = by_type ipv6_type n needs.Ipv4OrArp t p s.0 (λ k. absurd (no_address n p a k)) h
address_carried (Some short.Icmp6) n t p a s h = by_type ipv6_type n needs.Ipv4OrArp t p s.0 (λ k. absurd (no_address n p a k)) h
address_carried (Some short.Tcp6) n t p a s h = by_type ipv6_type n needs.Ipv4OrArp t p s.0 (λ k. absurd (no_address n p a k)) h
address_carried (Some short.Udp6) n t p a s h = by_type ipv6_type n needs.Ipv4OrArp t p s.0 (λ k. absurd (no_address n p a k)) h

either_address : (h : Option Shorthand) → needs_of (name_after h key.NwSrc) ≡ needs_of (name_after h key.NwDst)
either_address None = refl
either_address (Some short.Arp) = refl
either_address (Some short.Icmp) = refl
either_address (Some short.Icmp6) = refl
either_address (Some s) = refl

wider : (a b c : Bool) → (a || b) ≡ true → (a || (b || c)) ≡ true
wider true b c h = refl
wider false true c h = refl
wider false false c h = absurd (both_ways false refl h)

protocol_none : (n : MatchPrerequisite) (t p : Option ℕ) → IsProtocolNeed n → is_met n t p ≡ true → is_met needs.IpOrArp t p ≡ true
protocol_none needs.Ip t p a h = wider (is ipv4_type t) (is ipv6_type t) (is arp_type t) h
protocol_none needs.IpOrArp t p a h = h
protocol_none needs.Arp t p a h = or_right (is ipv4_type t) (is ipv6_type t || is arp_type t) (or_right (is ipv6_type t) (is arp_type t) h)
protocol_none n t p a h = absurd a

protocol_carried : (h : Option Shorthand) (n : MatchPrerequisite) (t p : Option ℕ) → IsProtocolNeed n → IsSaid t p h → is_met n t p ≡ true → IsCarried key.NwProto h t p
protocol_carried None n t p a s h = protocol_none n t p a h
protocol_carried (Some short.Arp) n t p a s h = by_type arp_type n needs.Arp t p s.0 (λ k. refl) h
protocol_carried (Some short.Icmp) n t p a s h = protocol_none n t p a h
protocol_carried (Some short.Icmp6) n t p a s h = protocol_none n t p a h
protocol_carried (Some x) n t p a s h = protocol_none n t p a h

-- ---- ports

this_number : (Q : ℕ → Type 0) (a b : ℕ) → (a == b) ≡ true → Q a → Q b
this_number Q a b e q = subst Q (eqb-true a b e) q

pub tcp_or_udp : (Q : Option ℕ → Option ℕ → Type 0) → Q (Some ipv4_type) (Some tcp_protocol) → Q (Some ipv4_type) (Some udp_protocol) → Q (Some ipv6_type) (Some tcp_protocol) → Q (Some ipv6_type) (Some udp_protocol)
    → (t p : Option ℕ) → is_met needs.TcpOrUdp t p ≡ true → Q t p
tcp_or_udp Q a b c d None p h = absurd (both_ways false refl h)
tcp_or_udp Q a b c d (Some k) None h = absurd (both_ways false refl (and_parts ((ipv4_type == k) || (ipv6_type == k)) false h).1)
tcp_or_udp Q a b c d (Some k) (Some j) h =
    let x = and_parts ((ipv4_type == k) || (ipv6_type == k)) ((tcp_protocol == j) || (udp_protocol == j)) h in
    by_tests (ipv4_type == k) (ipv6_type == k) (tcp_protocol == j) (udp_protocol == j) refl refl refl refl x.0 x.1
  where
    these : (m n : ℕ) → (m == k) ≡ true → (n == j) ≡ true → Q (Some m) (Some n) → Q (Some k) (Some j)
    these m n e f q = this_number (λ y. Q (Some k) (Some y)) n j f (this_number (λ x. Q (Some x) (Some n)) m k e q)

    by_tests : (t1 t2 u1 u2 : Bool) → (ipv4_type == k) ≡ t1 → (ipv6_type == k) ≡ t2 → (tcp_protocol == j) ≡ u1 → (udp_protocol == j) ≡ u2 → (t1 || t2) ≡ true → (u1 || u2) ≡ true → Q (Some k) (Some j)
    by_tests true t2 true u2 e1 e2 f1 f2 h g = these ipv4_type tcp_protocol e1 f1 a
    by_tests true t2 false true e1 e2 f1 f2 h g = these ipv4_type udp_protocol e1 f2 b
    by_tests false true true u2 e1 e2 f1 f2 h g = these ipv6_type tcp_protocol e2 f1 c
    by_tests false true false true e1 e2 f1 f2 h g = these ipv6_type udp_protocol e2 f2 d
    by_tests false false u1 u2 e1 e2 f1 f2 h g = absurd (both_ways false refl h)
    by_tests t1 t2 false false e1 e2 f1 f2 h g = absurd (both_ways false refl g)

no_protocol : (a b : Bool) → ((a && false) || (b && false)) ≡ true → ⊥
no_protocol true true h = both_ways false refl h
no_protocol true false h = both_ways false refl h
no_protocol false true h = both_ways false refl h
no_protocol false false h = both_ways false refl h

pub any_icmp : (Q : Option ℕ → Option ℕ → Type 0) → Q (Some ipv4_type) (Some icmp_protocol) → Q (Some ipv6_type) (Some icmp6_protocol) → (t p : Option ℕ) → is_met needs.AnyIcmp t p ≡ true → Q t p
any_icmp Q a b None p h = absurd (both_ways false refl h)
any_icmp Q a b (Some k) None h = absurd (no_protocol (ipv4_type == k) (ipv6_type == k) h)
any_icmp Q a b (Some k) (Some j) h = by_tests (ipv4_type == k) (icmp_protocol == j) (ipv6_type == k) (icmp6_protocol == j) refl refl refl refl h
  where
    these : (m n : ℕ) → (m == k) ≡ true → (n == j) ≡ true → Q (Some m) (Some n) → Q (Some k) (Some j)
    these m n e f q = this_number (λ y. Q (Some k) (Some y)) n j f (this_number (λ x. Q (Some x) (Some n)) m k e q)

    by_tests : (t1 u1 t2 u2 : Bool) → (ipv4_type == k) ≡ t1 → (icmp_protocol == j) ≡ u1 → (ipv6_type == k) ≡ t2 → (icmp6_protocol == j) ≡ u2 → ((t1 && u1) || (t2 && u2)) ≡ true → Q (Some k) (Some j)
    by_tests true true t2 u2 e1 f1 e2 f2 h = these ipv4_type icmp_protocol e1 f1 a
    by_tests true false true true e1 f1 e2 f2 h = these ipv6_type icmp6_protocol e2 f2 b
    by_tests false u1 true true e1 f1 e2 f2 h = these ipv6_type icmp6_protocol e2 f2 b
    by_tests true false true false e1 f1 e2 f2 h = absurd (both_ways false refl h)
    by_tests true false false u2 e1 f1 e2 f2 h = absurd (both_ways false refl h)
    by_tests false u1 true false e1 f1 e2 f2 h = absurd (both_ways false refl h)
    by_tests false u1 false u2 e1 f1 e2 f2 h = absurd (both_ways false refl h)

from_tcp : (a b c : Bool) → (a && b) ≡ true → (a && (b || c)) ≡ true
from_tcp true b c h = or_left b c h
from_tcp false b c h = h

from_udp : (a b c : Bool) → (a && c) ≡ true → (a && (b || c)) ≡ true
from_udp true b c h = or_right b c h
from_udp false b c h = h

port_carried : (n : MatchPrerequisite) (t p : Option ℕ) → IsPortNeed n → is_met n t p ≡ true → IsCarried key.TpSrc (short_for t p) t p × IsCarried key.TpDst (short_for t p) t p
port_carried needs.Tcp t p a h = tcp_or_udp (λ x y. IsCarried key.TpSrc (short_for x y) x y × IsCarried key.TpDst (short_for x y) x y) (refl, refl) (refl, refl) (refl, refl) (refl, refl) t p (from_tcp (is ipv4_type t || is ipv6_type t) (is tcp_protocol p) (is udp_protocol p) h)
port_carried needs.Udp t p a h = tcp_or_udp (λ x y. IsCarried key.TpSrc (short_for x y) x y × IsCarried key.TpDst (short_for x y) x y) (refl, refl) (refl, refl) (refl, refl) (refl, refl) t p (from_udp (is ipv4_type t || is ipv6_type t) (is tcp_protocol p) (is udp_protocol p) h)
port_carried needs.TcpOrUdp t p a h = tcp_or_udp (λ x y. IsCarried key.TpSrc (short_for x y) x y × IsCarried key.TpDst (short_for x y) x y) (refl, refl) (refl, refl) (refl, refl) (refl, refl) t p h
port_carried needs.AnyIcmp t p a h = any_icmp (λ x y. IsCarried key.TpSrc (short_for x y) x y × IsCarried key.TpDst (short_for x y) x y) (refl, refl) (refl, refl) t p h
port_carried needs.Icmp6 t p a h = any_icmp (λ x y. IsCarried key.TpSrc (short_for x y) x y × IsCarried key.TpDst (short_for x y) x y) (refl, refl) (refl, refl) t p (or_right (is ipv4_type t && is icmp_protocol p) (is ipv6_type t && is icmp6_protocol p) h)
port_carried n t p a h = absurd a

-- ---- all fields

pub carried : (f : FieldId) (n : MatchPrerequisite) (t p : Option ℕ) → MayNeed f n → is_met n t p ≡ true → IsCarried f (short_for t p) t p
carried key.NwSrc n t p a h = address_carried (short_for t p) n t p a (short_said t p) h
carried key.NwDst n t p a h = subst (λ m. is_met m t p ≡ true) (either_address (short_for t p)) (address_carried (short_for t p) n t p a (short_said t p) h)
carried key.NwProto n t p a h = protocol_carried (short_for t p) n t p a (short_said t p) h
carried key.TpSrc n t p a h = (port_carried n t p a h).0
carried key.TpDst n t p a h = (port_carried n t p a h).1
carried f n t p a h = subst (λ m. is_met m t p ≡ true) (a ∙ ap needs_of (sym (one_name (short_for t p) f tt))) h
