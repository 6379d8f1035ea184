-- Rows: the whole tables of what the values of named fields are, and of what they need.
use Rattle.std.specs.Prelude.{◌≡◌, ℕ, ◌+◌, Bool, true, false, is_some, List, [], ◌∷◌, ◌++◌, map, length, replicate, filter, Option, Some, None, codes, refl}
use Rattle.std.specs.List.{flat_map}
use Rattle.std.specs.Fmt.{digits, decimal}
use Rattle.spec_flow_text.specs.Numbers.{digits_upto, decimal_upto, number_upto}
use Rattle.spec_actions.specs.declared.named_field.NamedField.{NamedField}
use Rattle.spec_actions.specs.declared.named_field.NamedField.TheVariants.{InPort, Metadata, Reg0, Reg1, Reg2, Reg3, Reg4, Reg5, Reg6, Reg7, Reg8, Reg9, Reg10, Reg11, Reg12, Reg13, Reg14, Reg15, DlSrc, DlDst, DlType, VlanTci, VlanVid, VlanPcp, NwSrc, NwDst, ArpSpa, ArpTpa, Ipv6Src, Ipv6Dst, NwProto, ArpOp, NwTos, IpDscp, NwEcn, NwTtl, IpFrag, ArpSha, ArpTha, TpSrc, TpDst, TcpSrc, TcpDst, UdpSrc, UdpDst, IcmpType, IcmpCode, Icmpv6Type, Icmpv6Code}
use Rattle.spec_flow_text.specs.declared.part.ValueForm.{ValueForm}
use Rattle.spec_flow_text.specs.declared.part.ValueForm.TheVariants as form
use Rattle.spec_flow_text.specs.declared.part.MatchPrerequisite.{MatchPrerequisite}
use Rattle.spec_flow_text.specs.declared.part.MatchPrerequisite.TheVariants as needs
use Rattle.spec_flow_text.specs.declared.part.TagPart.{TagPart}
use Rattle.spec_flow_text.specs.declared.part.TagPart.TheVariants as tag
use Rattle.spec_flow_text.specs.Names.{named_fields}
use Rattle.spec_flow_text.specs.Values.{Bits, form_of, value_in, whole_value, value_of, needs_of, tag_part_of, is_met}

abbrev registers : List NamedField
registers =
    Reg0 ∷ Reg1 ∷ Reg2 ∷ Reg3 ∷ Reg4 ∷ Reg5 ∷ Reg6 ∷ Reg7 ∷ Reg8 ∷ Reg9 ∷ Reg10 ∷ Reg11 ∷ Reg12 ∷ Reg13 ∷ Reg14 ∷
    Reg15 ∷ []

-- what each row of a table says of its fields, and what a word says of them
abbrev as_said : {A : Type 0} → List (A × List NamedField) → List (List A)
as_said table = map (λ row. map (λ _. row.0) row.1) table

abbrev as_defined : {A : Type 0} → (NamedField → A) → List (A × List NamedField) → List (List A)
as_defined word table = map (λ row. map word row.1) table

-- how many fields a table names
abbrev size_of : {A : Type 0} → List (A × List NamedField) → ℕ
size_of table = length (flat_map (λ row. row.1) table)

-- ---- forms and ranges

abbrev numbers : List NamedField
numbers =
    Metadata ∷ registers ++ (DlType ∷ VlanTci ∷ VlanVid ∷ VlanPcp ∷ NwProto ∷ ArpOp ∷ NwTos ∷ IpDscp ∷ NwEcn ∷ NwTtl ∷
    TpSrc ∷ TpDst ∷ TcpSrc ∷ TcpDst ∷ UdpSrc ∷ UdpDst ∷ IcmpType ∷ IcmpCode ∷ Icmpv6Type ∷ Icmpv6Code ∷ [])

abbrev forms : List (ValueForm × List NamedField)
forms =
    (form.Port, InPort ∷ []) ∷
    (form.Mac, DlSrc ∷ DlDst ∷ ArpSha ∷ ArpTha ∷ []) ∷
    (form.Ipv4, NwSrc ∷ NwDst ∷ ArpSpa ∷ ArpTpa ∷ []) ∷
    (form.Ipv6, Ipv6Src ∷ Ipv6Dst ∷ []) ∷
    (form.Fragment, IpFrag ∷ []) ∷
    (form.Number, numbers) ∷ []

each_value_has_its_form : (as_defined form_of forms ≡ as_said forms) × (size_of forms ≡ length named_fields)
each_value_has_its_form = (refl, refl)

-- the greatest number of each field that is written as a number, and of a port
abbrev greatest : List (ℕ × List NamedField)
greatest =
    (3, NwEcn ∷ []) ∷
    (7, VlanPcp ∷ []) ∷
    (63, IpDscp ∷ []) ∷
    (255, NwProto ∷ ArpOp ∷ NwTos ∷ NwTtl ∷ IcmpType ∷ IcmpCode ∷ Icmpv6Type ∷ Icmpv6Code ∷ []) ∷
    (8191, VlanVid ∷ []) ∷
    (65279, InPort ∷ []) ∷
    (65535, DlType ∷ VlanTci ∷ TpSrc ∷ TpDst ∷ TcpSrc ∷ TcpDst ∷ UdpSrc ∷ UdpDst ∷ []) ∷
    (4294967295, registers) ∷
    (18446744073709551615, Metadata ∷ []) ∷ []

-- whether each of these fields has this value, or none of them
abbrev take : (ℕ → ℕ) → List (List Bool)
take number = map (λ row. map (λ f. is_some (value_of f (decimal (number row.0)))) row.1) greatest

each_field_takes_its_greatest_number_and_no_greater_one :
    (take (λ n. n) ≡ map (λ row. map (λ _. true) row.1) greatest)
    × ((take (λ n. n + 1) ≡ map (λ row. map (λ _. false) row.1) greatest) × (size_of greatest ≡ length (InPort ∷ numbers)))
unfolding value_of whole_value value_in number_upto decimal_upto digits_upto digits
each_field_takes_its_greatest_number_and_no_greater_one = (refl, (refl, refl))

abbrev bits : ℕ → ℕ → Bits
bits value mask = record { value = value; mask = mask }

-- bit 0 says that a packet is a fragment, bit 1 that it isn't the first
abbrev words_of_fragments : List (List ℕ × Option Bits)
words_of_fragments =
    (codes "no", Some (bits 0 3)) ∷
    (codes "first", Some (bits 1 3)) ∷
    (codes "later", Some (bits 3 3)) ∷
    (codes "yes", Some (bits 1 1)) ∷
    (codes "not_later", Some (bits 0 2)) ∷
    (codes "0", None) ∷ (codes "0x1/0x1", None) ∷ (codes "LATER", None) ∷ (codes "no/3", None) ∷ (codes "", None) ∷ []

each_word_of_a_fragment_has_its_bits : map (λ row. value_of IpFrag row.0) words_of_fragments ≡ map (λ row. row.1) words_of_fragments
unfolding value_of
each_word_of_a_fragment_has_its_bits = refl

-- ---- what a match has to state for a field to be kept

abbrev prerequisites : List (MatchPrerequisite × List NamedField)
prerequisites =
    (needs.Nothing, InPort ∷ Metadata ∷ registers ++ (DlSrc ∷ DlDst ∷ DlType ∷ VlanTci ∷ VlanVid ∷ VlanPcp ∷ [])) ∷
    (needs.Ipv4OrArp, NwSrc ∷ NwDst ∷ []) ∷
    (needs.Arp, ArpSpa ∷ ArpTpa ∷ ArpOp ∷ ArpSha ∷ ArpTha ∷ []) ∷
    (needs.Ipv6, Ipv6Src ∷ Ipv6Dst ∷ []) ∷
    (needs.IpOrArp, NwProto ∷ []) ∷
    (needs.Ip, NwTos ∷ IpDscp ∷ NwEcn ∷ NwTtl ∷ IpFrag ∷ []) ∷
    (needs.TcpOrUdp, TpSrc ∷ TpDst ∷ []) ∷
    (needs.Tcp, TcpSrc ∷ TcpDst ∷ []) ∷
    (needs.Udp, UdpSrc ∷ UdpDst ∷ []) ∷
    (needs.AnyIcmp, IcmpType ∷ IcmpCode ∷ []) ∷
    (needs.Icmp6, Icmpv6Type ∷ Icmpv6Code ∷ []) ∷ []

each_field_has_its_prerequisite :
    (as_defined needs_of prerequisites ≡ as_said prerequisites) × (size_of prerequisites ≡ length named_fields)
each_field_has_its_prerequisite = (refl, refl)

-- whether a flow of this Ethernet type and protocol of IP, where it states them, is each of these
abbrev met_by : Option ℕ → Option ℕ → List Bool
met_by type protocol = map (λ row. is_met row.0 type protocol) prerequisites

-- in the order of the table above
abbrev flows_and_what_they_are : List ((Option ℕ × Option ℕ) × List Bool)
flows_and_what_they_are =
    ((None, None), true ∷ replicate 10 false) ∷
    ((None, Some 6), true ∷ replicate 10 false) ∷
    ((Some 0x88b5, Some 6), true ∷ replicate 10 false) ∷
    ((Some 0x0800, None), true ∷ true ∷ false ∷ false ∷ true ∷ true ∷ false ∷ false ∷ false ∷ false ∷ false ∷ []) ∷
    ((Some 0x0800, Some 1), true ∷ true ∷ false ∷ false ∷ true ∷ true ∷ false ∷ false ∷ false ∷ true ∷ false ∷ []) ∷
    ((Some 0x0800, Some 6), true ∷ true ∷ false ∷ false ∷ true ∷ true ∷ true ∷ true ∷ false ∷ false ∷ false ∷ []) ∷
    ((Some 0x0800, Some 17), true ∷ true ∷ false ∷ false ∷ true ∷ true ∷ true ∷ false ∷ true ∷ false ∷ false ∷ []) ∷
    ((Some 0x0800, Some 58), true ∷ true ∷ false ∷ false ∷ true ∷ true ∷ false ∷ false ∷ false ∷ false ∷ false ∷ []) ∷
    ((Some 0x86dd, None), true ∷ false ∷ false ∷ true ∷ true ∷ true ∷ false ∷ false ∷ false ∷ false ∷ false ∷ []) ∷
    ((Some 0x86dd, Some 1), true ∷ false ∷ false ∷ true ∷ true ∷ true ∷ false ∷ false ∷ false ∷ false ∷ false ∷ []) ∷
    ((Some 0x86dd, Some 6), true ∷ false ∷ false ∷ true ∷ true ∷ true ∷ true ∷ true ∷ false ∷ false ∷ false ∷ []) ∷
    ((Some 0x86dd, Some 17), true ∷ false ∷ false ∷ true ∷ true ∷ true ∷ true ∷ false ∷ true ∷ false ∷ false ∷ []) ∷
    ((Some 0x86dd, Some 58), true ∷ false ∷ false ∷ true ∷ true ∷ true ∷ false ∷ false ∷ false ∷ true ∷ true ∷ []) ∷
    ((Some 0x0806, None), true ∷ true ∷ true ∷ false ∷ true ∷ replicate 6 false) ∷
    ((Some 0x0806, Some 17), true ∷ true ∷ true ∷ false ∷ true ∷ replicate 6 false) ∷ []

each_prerequisite_is_met_by_its_packets :
    map (λ row. met_by row.0.0 row.0.1) flows_and_what_they_are ≡ map (λ row. row.1) flows_and_what_they_are
each_prerequisite_is_met_by_its_packets = refl

-- ---- tags

abbrev tag_parts : List (TagPart × List NamedField)
tag_parts = (tag.Identifier, VlanVid ∷ []) ∷ (tag.Priority, VlanPcp ∷ []) ∷ []

-- the fields that are about a part of the tag
abbrev is_of_tag : TagPart → Bool
is_of_tag tag.Neither = false
is_of_tag part = true

the_fields_about_a_part_of_the_tag :
    (as_defined tag_part_of tag_parts ≡ as_said tag_parts)
    × (filter (λ f. is_of_tag (tag_part_of f)) named_fields ≡ VlanVid ∷ VlanPcp ∷ [])
the_fields_about_a_part_of_the_tag = (refl, refl)
