-- Nothing is shown of fields of which no bit is stated.
use Rattle.std.proofs.Common.{◌≡◌, ℕ, Bool, true, false, not, if◌then◌else◌, List, [], ◌∷◌, ◌++◌, Option, refl, ap, ◌∙◌, eqb-true}
use Rattle.std.specs.Prelude.{◌==◌}
use Rattle.std.specs.List.{flat_map, list_all}
use Rattle.std.proofs.lemmas.Bool.{and_parts, not-true}
use Rattle.spec_keys.specs.declared.field_id.FieldId.{FieldId}
use Rattle.spec_keys.specs.declared.field_id.FieldId.TheVariants as key
use Rattle.spec_keys.specs.Keys.{value_of, are_zero}
use Rattle.spec_tables.specs.Rules.{Match}
use Rattle.spec_flow_text.specs.declared.shorthand.Shorthand.{Shorthand}
use Rattle.spec_flow_text.specs.Values.{bits}
use Rattle.spec_flow_text.specs.Printed.{Shown, shown_field, shown_service, shown_protocol, shown_bits, says_protocol, name_after}

-- a type may be told by a shorthand all the same
abbrev is_type : FieldId → Bool
is_type key.DlType = true
is_type f = false

no_service : (value mask : ℕ) → mask ≡ 0 → shown_service (bits value mask) ≡ []
no_service value mask none = rw none refl

no_protocol : (s : Option Shorthand) (value mask : ℕ) → mask ≡ 0 → shown_protocol s (bits value mask) ≡ []
no_protocol s value mask none = rw none (by_word (says_protocol s))
  where
    by_word : (t : Bool) → ◌≡◌ {A = List Shown} (if t then [] else []) []
    by_word true = refl
    by_word false = refl

nothing_shown : (m : Match) (s : Option Shorthand) (f : FieldId) → is_type f ≡ false → value_of m.mask f ≡ 0 → shown_field m s f ≡ []
nothing_shown m s key.DlType other none = absurd (cc other)
nothing_shown m s key.NwProto other none = no_protocol s (value_of m.key key.NwProto) (value_of m.mask key.NwProto) none
nothing_shown m s key.NwTos other none = no_service (value_of m.key key.NwTos) (value_of m.mask key.NwTos) none
nothing_shown m s key.InPort other none = rw none refl
nothing_shown m s key.Metadata other none = rw none refl
nothing_shown m s key.Reg0 other none = rw none refl
nothing_shown m s key.Reg1 other none = rw none refl
nothing_shown m s key.Reg2 other none = rw none refl
nothing_shown m s key.Reg3 other none = rw none refl
nothing_shown m s key.Reg4 other none = rw none refl
nothing_shown m s key.Reg5 other none = rw none refl
nothing_shown m s key.Reg6 other none = rw none refl
nothing_shown m s key.Reg7 other none = rw none refl
nothing_shown m s key.Reg8 other none = rw none refl
nothing_shown m s key.Reg9 other none = rw none refl
nothing_shown m s key.Reg10 other none = rw none refl
nothing_shown m s key.Reg11 other none = rw none refl
nothing_shown m s key.Reg12 other none = rw none refl
nothing_shown m s key.Reg13 other none = rw none refl
nothing_shown m s key.Reg14 other none = rw none refl
nothing_shown m s key.Reg15 other none = rw none refl
nothing_shown m s key.DlSrc other none = rw none refl
nothing_shown m s key.DlDst other none = rw none refl
nothing_shown m s key.VlanTci other none = rw none refl
nothing_shown m s key.NwSrc other none = rw none refl
nothing_shown m s key.NwDst other none = rw none refl
nothing_shown m s key.Ipv6Src other none = rw none refl
nothing_shown m s key.Ipv6Dst other none = rw none refl
nothing_shown m s key.NwTtl other none = rw none refl
nothing_shown m s key.IpFrag other none = rw none refl
nothing_shown m s key.ArpSha other none = rw none refl
nothing_shown m s key.ArpTha other none = rw none refl
nothing_shown m s key.TpSrc other none = rw none refl
nothing_shown m s key.TpDst other none = rw none refl
nothing_shown m s key.VlanTpid other none = rw none refl
nothing_shown m s key.VlanTci2 other none = rw none refl
nothing_shown m s key.VlanTpid2 other none = rw none refl

pub none_shown : (m : Match) (s : Option Shorthand) (fs : List FieldId) → list_all (λ f. not (is_type f)) fs ≡ true → are_zero fs m.mask ≡ true
    → flat_map (shown_field m s) fs ≡ []
none_shown m s [] others zero = refl
none_shown m s (f ∷ fs) others zero =
    let other = and_parts (not (is_type f)) (list_all (λ g. not (is_type g)) fs) others in
    let none = and_parts (value_of m.mask f == 0) (are_zero fs m.mask) zero in
    rw (nothing_shown m s f (not-true (is_type f) other.0) (eqb-true (value_of m.mask f) 0 none.0)) (none_shown m s fs other.1 none.1)
