-- The Ethernet type and the protocol of a match, which a shorthand may state both.
use Rattle.std.proofs.Common.{◌≡◌, ℕ, Bool, true, false, cond, [], ◌∷◌, refl, sym, subst, ap, ◌∙◌, Option, Some, None, eqb-true}
use Rattle.std.specs.Prelude.{◌&&◌, ◌==◌}
use Rattle.std.proofs.lemmas.Bool.{and_parts, both_ways}
use Rattle.spec_base.specs.Bits.{all_bits}
use Rattle.spec_keys.specs.declared.field_id.FieldId.TheVariants as key
use Rattle.spec_keys.specs.Keys.{value_of}
use Rattle.spec_keys.specs.Protocols.{ipv4_type, ipv6_type, arp_type, icmp_protocol, tcp_protocol, udp_protocol, icmp6_protocol}
use Rattle.spec_tables.specs.Rules.{Match}
use Rattle.spec_flow_text.specs.declared.shorthand.Shorthand.{Shorthand}
use Rattle.spec_flow_text.specs.declared.shorthand.Shorthand.TheVariants as short
use Rattle.spec_flow_text.specs.Names.{type_stated, protocol_stated}
use Rattle.spec_flow_text.specs.Values.{type_part, protocol_part, is_met}
use Rattle.spec_flow_text.specs.Printed.{bits_of, is_whole, shorthand_of_ipv4, shorthand_of_ipv6, shorthand_of_type, shorthand_of, says_protocol}
use Rattle.text_laws.specs.SpelledMatches.{number_stated}
use Rattle.text_laws.proofs.matches.ItemsBack.{short_parts}
use Rattle.text_laws.proofs.matches.Together.{IsBlock}
use Rattle.text_laws.proofs.matches.Blocks.{one_part}

-- ---- the shorthand of a match

-- what a shorthand states of a type and a protocol
pub record IsShortOf (kind : ℕ) (stated : Bool) (protocol : ℕ) (h : Shorthand) : Type 0 where
  pub type : type_stated h ≡ kind
  pub whole : says_protocol (Some h) ≡ true → stated ≡ true
  pub number : says_protocol (Some h) ≡ true → protocol_stated h ≡ Some protocol

abbrev pub IsShort : ℕ → Bool → ℕ → Option Shorthand → Type 0
IsShort kind stated protocol None = Unit {0}
IsShort kind stated protocol (Some h) = IsShortOf kind stated protocol h

both : (a b : Bool) → (a && b) ≡ true → (a ≡ true) × (b ≡ true)
both a b h = and_parts a b h

silent : (kind : ℕ) (stated : Bool) (protocol : ℕ) (h : Shorthand) → type_stated h ≡ kind → says_protocol (Some h) ≡ false → IsShortOf kind stated protocol h
silent kind stated protocol h e no_protocol = record {
  type = e;
  whole = λ says. absurd (both_ways (says_protocol (Some h)) no_protocol says);
  number = λ says. absurd (both_ways (says_protocol (Some h)) no_protocol says);
}

saying : (kind : ℕ) (stated : Bool) (protocol n : ℕ) (h : Shorthand) → type_stated h ≡ kind → protocol_stated h ≡ Some n → (stated && (protocol == n)) ≡ true → IsShortOf kind stated protocol h
saying kind stated protocol n h e says test =
    let p = both stated (protocol == n) test in
    record { type = e; whole = λ s. p.0; number = λ s. says ∙ ap Some (sym (eqb-true protocol n p.1)) }

ipv4_short : (kind : ℕ) (stated : Bool) (protocol : ℕ) → ipv4_type ≡ kind → IsShortOf kind stated protocol (shorthand_of_ipv4 stated protocol)
ipv4_short kind stated protocol e = by_tests (stated && (protocol == icmp_protocol)) (stated && (protocol == tcp_protocol)) (stated && (protocol == udp_protocol)) refl refl refl
  where
    by_tests : (t1 t2 t3 : Bool) → (stated && (protocol == icmp_protocol)) ≡ t1 → (stated && (protocol == tcp_protocol)) ≡ t2 → (stated && (protocol == udp_protocol)) ≡ t3
        → IsShortOf kind stated protocol (cond t1 short.Icmp (cond t2 short.Tcp (cond t3 short.Udp short.Ip)))
    by_tests true t2 t3 e1 e2 e3 = saying kind stated protocol icmp_protocol short.Icmp e refl e1
    by_tests false true t3 e1 e2 e3 = saying kind stated protocol tcp_protocol short.Tcp e refl e2
    by_tests false false true e1 e2 e3 = saying kind stated protocol udp_protocol short.Udp e refl e3
    by_tests false false false e1 e2 e3 = silent kind stated protocol short.Ip e refl

ipv6_short : (kind : ℕ) (stated : Bool) (protocol : ℕ) → ipv6_type ≡ kind → IsShortOf kind stated protocol (shorthand_of_ipv6 stated protocol)
ipv6_short kind stated protocol e = by_tests (stated && (protocol == icmp6_protocol)) (stated && (protocol == tcp_protocol)) (stated && (protocol == udp_protocol)) refl refl refl
  where
    by_tests : (t1 t2 t3 : Bool) → (stated && (protocol == icmp6_protocol)) ≡ t1 → (stated && (protocol == tcp_protocol)) ≡ t2 → (stated && (protocol == udp_protocol)) ≡ t3
        → IsShortOf kind stated protocol (cond t1 short.Icmp6 (cond t2 short.Tcp6 (cond t3 short.Udp6 short.Ipv6)))
    by_tests true t2 t3 e1 e2 e3 = saying kind stated protocol icmp6_protocol short.Icmp6 e refl e1
    by_tests false true t3 e1 e2 e3 = saying kind stated protocol tcp_protocol short.Tcp6 e refl e2
    by_tests false false true e1 e2 e3 = saying kind stated protocol udp_protocol short.Udp6 e refl e3
    by_tests false false false e1 e2 e3 = silent kind stated protocol short.Ipv6 e refl

pub type_short : (kind : ℕ) (stated : Bool) (protocol : ℕ) → IsShort kind stated protocol (shorthand_of_type kind stated protocol)
type_short kind stated protocol = by_tests (kind == arp_type) (kind == ipv4_type) (kind == ipv6_type) refl refl refl
  where
    by_tests : (t1 t2 t3 : Bool) → (kind == arp_type) ≡ t1 → (kind == ipv4_type) ≡ t2 → (kind == ipv6_type) ≡ t3
        → IsShort kind stated protocol (cond t1 (Some short.Arp) (cond t2 (Some (shorthand_of_ipv4 stated protocol)) (cond t3 (Some (shorthand_of_ipv6 stated protocol)) None)))
    by_tests true t2 t3 e1 e2 e3 = silent kind stated protocol short.Arp (sym (eqb-true kind arp_type e1)) refl
    by_tests false true t3 e1 e2 e3 = ipv4_short kind stated protocol (sym (eqb-true kind ipv4_type e2))
    by_tests false false true e1 e2 e3 = ipv6_short kind stated protocol (sym (eqb-true kind ipv6_type e3))
    by_tests false false false e1 e2 e3 = tt

-- what is known of a match with a shorthand
pub record HasShort (m : Match) (h : Shorthand) : Type 0 where
  pub type_whole : is_whole key.DlType (bits_of m key.DlType) ≡ true
  pub type : type_stated h ≡ value_of m.key key.DlType
  pub whole : says_protocol (Some h) ≡ true → is_whole key.NwProto (bits_of m key.NwProto) ≡ true
  pub number : says_protocol (Some h) ≡ true → protocol_stated h ≡ Some (value_of m.key key.NwProto)

abbrev pub HasShortOrNone : Match → Option Shorthand → Type 0
HasShortOrNone m None = Unit {0}
HasShortOrNone m (Some h) = HasShort m h

pub has_short : (m : Match) → HasShortOrNone m (shorthand_of m)
unfolding shorthand_of
has_short m = by_test (is_whole key.DlType (bits_of m key.DlType)) refl (shorthand_of_type kind stated protocol) (type_short kind stated protocol)
  where
    kind : ℕ
    kind = value_of m.key key.DlType

    stated : Bool
    stated = is_whole key.NwProto (bits_of m key.NwProto)

    protocol : ℕ
    protocol = value_of m.key key.NwProto

    by_test : (t : Bool) → is_whole key.DlType (bits_of m key.DlType) ≡ t → (o : Option Shorthand) → IsShort (value_of m.key key.DlType) (is_whole key.NwProto (bits_of m key.NwProto)) (value_of m.key key.NwProto) o → HasShortOrNone m (cond t o None)
    by_test false whole o h = tt
    by_test true whole None h = tt
    by_test true whole (Some s) h = record { type_whole = whole; type = h.type; whole = h.whole; number = h.number }

-- ---- its parts

pub number_of_type : (m : Match) (h : Shorthand) → HasShort m h → number_stated m key.DlType ≡ Some (type_stated h)
number_of_type m h s = rw (s.type_whole) (ap Some (sym s.type))

type_value : (h : Shorthand) → (type_part (type_stated h)).value ≡ type_stated h
type_value short.Ip = refl
type_value h = refl

pub type_block : (m : Match) (h : Shorthand) → HasShort m h → IsBlock m key.DlType (type_part (type_stated h) ∷ [])
type_block m h s =
    one_part m key.DlType (type_part (type_stated h)) refl (type_value h ∙ s.type) (sym (eqb-true (value_of m.mask key.DlType) (all_bits 16) s.type_whole))
    (λ exact. number_of_type m h s ∙ ap Some (sym (type_value h))) refl

protocol_value : (h : Shorthand) (n : ℕ) → protocol_stated h ≡ Some n → (protocol_part n).value ≡ n
protocol_value short.Ip n e = cc
protocol_value short.Ipv6 n e = cc
protocol_value short.Arp n e = cc
protocol_value short.Icmp n e = let same : icmp_protocol ≡ n = cc in subst (λ k. (protocol_part k).value ≡ k) same refl
protocol_value short.Tcp n e = let same : tcp_protocol ≡ n = cc in subst (λ k. (protocol_part k).value ≡ k) same refl
protocol_value short.Udp n e = let same : udp_protocol ≡ n = cc in subst (λ k. (protocol_part k).value ≡ k) same refl
protocol_value short.Icmp6 n e = let same : icmp6_protocol ≡ n = cc in subst (λ k. (protocol_part k).value ≡ k) same refl
protocol_value short.Tcp6 n e = let same : tcp_protocol ≡ n = cc in subst (λ k. (protocol_part k).value ≡ k) same refl
protocol_value short.Udp6 n e = let same : udp_protocol ≡ n = cc in subst (λ k. (protocol_part k).value ≡ k) same refl

protocol_met : (h : Shorthand) (p : Option ℕ) → says_protocol (Some h) ≡ true → is_met (protocol_part 0).needs (Some (type_stated h)) p ≡ true
protocol_met short.Ip p e = absurd (both_ways false refl e)
protocol_met short.Ipv6 p e = absurd (both_ways false refl e)
protocol_met short.Arp p e = absurd (both_ways false refl e)
protocol_met h p e = refl

pub protocol_block : (m : Match) (h : Shorthand) → HasShort m h → says_protocol (Some h) ≡ true → IsBlock m key.NwProto (protocol_part (value_of m.key key.NwProto) ∷ [])
protocol_block m h s says =
    let n = value_of m.key key.NwProto in
    let value = protocol_value h n (s.number says) in
    one_part m key.NwProto (protocol_part n) refl value (sym (eqb-true (value_of m.mask key.NwProto) (all_bits 8) (s.whole says)))
    (λ exact. rw (s.whole says) (ap Some (sym value))) (ap (λ t. is_met (protocol_part 0).needs t (number_stated m key.NwProto)) (number_of_type m h s) ∙ protocol_met h (number_stated m key.NwProto) says)

-- the parts of a shorthand are those of the type, and of the protocol where it says one
pub says_both : (m : Match) (h : Shorthand) → HasShort m h → says_protocol (Some h) ≡ true
    → short_parts h (protocol_stated h) ≡ type_part (type_stated h) ∷ protocol_part (value_of m.key key.NwProto) ∷ []
says_both m h s says = ap (short_parts h) (s.number says)

pub says_type : (h : Shorthand) → says_protocol (Some h) ≡ false → short_parts h (protocol_stated h) ≡ type_part (type_stated h) ∷ []
says_type short.Ip e = refl
says_type short.Ipv6 e = refl
says_type short.Arp e = refl
says_type h e = absurd (both_ways true e refl)
