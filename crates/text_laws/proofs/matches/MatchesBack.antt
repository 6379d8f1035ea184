-- What is printed of a match that can be spelled states that match.
use Rattle.std.proofs.Common.{◌≡◌, ℕ, Bool, true, false, cond, List, [], ◌∷◌, ◌++◌, refl, sym, subst, ap, ◌∙◌, append_assoc, append-nil, Option, Some, None, eqb-true}
use Rattle.std.specs.Prelude.{◌&&◌, ◌||◌, ◌==◌, nat_le, bit_and}
use Rattle.std.specs.List.{flat_map}
use Rattle.std.proofs.lemmas.Bool.{and_parts, both_ways}
use Rattle.spec_base.specs.Bits.{all_bits}
use Rattle.spec_keys.specs.declared.field_id.FieldId.{FieldId}
use Rattle.spec_keys.specs.declared.field_id.FieldId.TheVariants as key
use Rattle.spec_keys.specs.Fields.{fields, place_of, width_of}
use Rattle.spec_keys.specs.Keys.{value_of}
use Rattle.spec_actions.specs.declared.named_field.NamedField.TheVariants as field
use Rattle.spec_tables.specs.Rules.{Match}
use Rattle.spec_flow_text.specs.declared.part.Part.{Part}
use Rattle.spec_flow_text.specs.declared.shorthand.Shorthand.{Shorthand}
use Rattle.spec_flow_text.specs.declared.shorthand.Shorthand.TheVariants as short
use Rattle.spec_flow_text.specs.Names.{type_stated, protocol_stated}
use Rattle.spec_flow_text.specs.Values.{Bits, type_part, protocol_part}
use Rattle.spec_flow_text.specs.Matches.{kept, match_of}
use Rattle.spec_flow_text.specs.Printed.{Shown, shown_bits, bits_of, shorthand_of, name_after, says_protocol, shown_field, shown}
use Rattle.text_laws.proofs.ValuesBack.{ReadValues}
use Rattle.text_laws.specs.SpelledMatches.{is_stated, number_stated, has_needed, IsSpellable}
use Rattle.text_laws.proofs.matches.ItemsBack.{FollowEachOther, short_parts}
use Rattle.text_laws.proofs.matches.WordsBack.{parts_of, all_parts, AreReadable, readable_more}
use Rattle.text_laws.proofs.matches.Together.{IsBlock, is_in, seen_after, all_together}
use Rattle.text_laws.proofs.matches.NamesBack.{short_readable}
use Rattle.text_laws.proofs.matches.Blocks.{is_named, bits_block, bits_readable}
use Rattle.text_laws.proofs.matches.Shorthands.{HasShort, HasShortOrNone, has_short, type_block, protocol_block, says_both, says_type}
use Rattle.text_laws.proofs.matches.Services.{service}

-- what each field of the match is, for one choice of the shorthand
abbrev AreSpelled : Match → Option Shorthand → Type 0
AreSpelled m h = (f : FieldId) → (is_stated (name_after h f) (bits_of m f) ≡ true) × (has_needed m (name_after h f) (bits_of m f) ≡ true)

are_spelled : (m : Match) → IsSpellable m → AreSpelled m (shorthand_of m)
are_spelled m s f = and_parts (is_stated (name_after (shorthand_of m) f) (bits_of m f)) (has_needed m (name_after (shorthand_of m) f) (bits_of m f)) (s.fields f)

-- ---- the parts of each field

abbrev type_alone_or_short : Match → Option Shorthand → List Part
type_alone_or_short m None = all_parts (shown_bits field.DlType (bits_of m key.DlType))
type_alone_or_short m (Some h) = type_part (type_stated h) ∷ []

abbrev block : Match → Option Shorthand → FieldId → List Part
block m h key.DlType = type_alone_or_short m h
block m h key.NwProto =
    cond (says_protocol h) (protocol_part (value_of m.key key.NwProto) ∷ []) (all_parts (shown_bits (name_after h key.NwProto) (bits_of m key.NwProto)))
block m h f = all_parts (shown_field m h f)

-- a field that is stated whole or not at all
whole_of : (b : Bits) (full : ℕ) (rest : Bool) → ((bit_and b.value b.mask == b.value) && ((b.mask == 0) || ((b.mask == full) && rest))) ≡ true → (b.mask == 0) ≡ false → (b.mask == full) ≡ true
whole_of b full rest h some = by_test (b.mask == 0) (and_parts (bit_and b.value b.mask == b.value) ((b.mask == 0) || ((b.mask == full) && rest)) h).1 some
  where
    by_test : (t : Bool) → (t || ((b.mask == full) && rest)) ≡ true → t ≡ false → (b.mask == full) ≡ true
    by_test true h e = absurd (both_ways true e refl)
    by_test false h e = (and_parts (b.mask == full) rest h).0

whole_protocol : (h : Option Shorthand) (b : Bits) → is_stated (name_after h key.NwProto) b ≡ true → (b.mask == 0) ≡ false → (b.mask == all_bits 8) ≡ true
whole_protocol None b h some = whole_of b (all_bits 8) (nat_le b.value (all_bits 8) && nat_le b.mask (all_bits 8)) h some
whole_protocol (Some short.Arp) b h some = whole_of b (all_bits 8) (nat_le b.value (all_bits 8) && nat_le b.mask (all_bits 8)) h some
whole_protocol (Some short.Icmp) b h some = whole_of b (all_bits 8) (nat_le b.value (all_bits 8) && nat_le b.mask (all_bits 8)) h some
whole_protocol (Some short.Icmp6) b h some = whole_of b (all_bits 8) (nat_le b.value (all_bits 8) && nat_le b.mask (all_bits 8)) h some
whole_protocol (Some s) b h some = whole_of b (all_bits 8) (nat_le b.value (all_bits 8) && nat_le b.mask (all_bits 8)) h some

none_stated : (m : Match) (f : FieldId) → (0 == all_bits (width_of f)) ≡ false → (value_of m.mask f == 0) ≡ true → number_stated m f ≡ None
none_stated m f wide none =
    let other : (value_of m.mask f == all_bits (width_of f)) ≡ false = ap (λ k. k == all_bits (width_of f)) (eqb-true (value_of m.mask f) 0 none) ∙ wide in
    rw other refl

whole_stated : (m : Match) (f : FieldId) → (value_of m.mask f == all_bits (width_of f)) ≡ true → number_stated m f ≡ Some (value_of m.key f)
whole_stated m f whole = rw whole refl

type_alone : (m : Match) → AreSpelled m None → IsBlock m key.DlType (all_parts (shown_bits field.DlType (bits_of m key.DlType)))
type_alone m spelled =
    let b = bits_of m key.DlType in
    let s = spelled key.DlType in
    bits_block m key.DlType field.DlType (is_named None key.DlType tt) s.0 s.1 (λ exact none. none_stated m key.DlType refl none)
    (λ exact some. whole_stated m key.DlType (whole_of b (all_bits 16) (nat_le b.value (all_bits 16) && nat_le b.mask (all_bits 16)) s.0 some))

protocol_alone : (m : Match) (h : Option Shorthand) → AreSpelled m h → IsBlock m key.NwProto (all_parts (shown_bits (name_after h key.NwProto) (bits_of m key.NwProto)))
protocol_alone m h spelled =
    let s = spelled key.NwProto in
    bits_block m key.NwProto (name_after h key.NwProto) (is_named h key.NwProto tt) s.0 s.1 (λ exact none. none_stated m key.NwProto refl none)
    (λ exact some. whole_stated m key.NwProto (whole_protocol h (bits_of m key.NwProto) s.0 some))

protocol_parts : (m : Match) (h : Option Shorthand) → HasShortOrNone m h → AreSpelled m h → IsBlock m key.NwProto (block m h key.NwProto)
protocol_parts m None has spelled = protocol_alone m None spelled
protocol_parts m (Some h) has spelled = by_test (says_protocol (Some h)) refl
  where
    by_test : (t : Bool) → says_protocol (Some h) ≡ t
        → IsBlock m key.NwProto (cond t (protocol_part (value_of m.key key.NwProto) ∷ []) (all_parts (shown_bits (name_after (Some h) key.NwProto) (bits_of m key.NwProto))))
    by_test true says = protocol_block m h has says
    by_test false says = protocol_alone m (Some h) spelled

type_parts : (m : Match) (h : Option Shorthand) → HasShortOrNone m h → AreSpelled m h → IsBlock m key.DlType (block m h key.DlType)
type_parts m None has spelled = type_alone m spelled
type_parts m (Some h) has spelled = type_block m h has

service_name : (h : Option Shorthand) → name_after h key.NwTos ≡ field.NwTos
service_name None = refl
service_name (Some short.Arp) = refl
service_name (Some short.Icmp) = refl
service_name (Some short.Icmp6) = refl
service_name (Some s) = refl

service_parts : ReadValues → (m : Match) (h : Option Shorthand) → AreSpelled m h → IsBlock m key.NwTos (all_parts (shown_field m h key.NwTos)) × AreReadable (shown_field m h key.NwTos)
service_parts r m h spelled =
    let s = spelled key.NwTos in
    service r m (subst (λ n. is_stated n (bits_of m key.NwTos) ≡ true) (service_name h) s.0) (subst (λ n. has_needed m n (bits_of m key.NwTos) ≡ true) (service_name h) s.1)

block_of : ReadValues → (m : Match) (h : Option Shorthand) → HasShortOrNone m h → AreSpelled m h → (f : FieldId) → IsBlock m f (block m h f)
block_of r m h has spelled key.DlType = type_parts m h has spelled
block_of r m h has spelled key.NwProto = protocol_parts m h has spelled
block_of r m h has spelled key.NwTos = (service_parts r m h spelled).0
block_of r m h has spelled f = bits_block m f (name_after h f) (is_named h f tt) (spelled f).0 (spelled f).1 (λ exact. absurd exact) (λ exact. absurd exact)

-- ---- the items of each field

readable_field : ReadValues → (m : Match) (h : Option Shorthand) → AreSpelled m h → (f : FieldId) → AreReadable (shown_field m h f)
readable_field r m None spelled key.DlType = bits_readable r key.DlType field.DlType (bits_of m key.DlType) (is_named None key.DlType tt) (spelled key.DlType).0
readable_field r m (Some h) spelled key.DlType = (short_readable h, tt)
readable_field r m h spelled key.NwProto = by_test (says_protocol h)
  where
    by_test : (t : Bool) → AreReadable (cond t [] (shown_bits (name_after h key.NwProto) (bits_of m key.NwProto)))
    by_test true = tt
    by_test false = bits_readable r key.NwProto (name_after h key.NwProto) (bits_of m key.NwProto) (is_named h key.NwProto tt) (spelled key.NwProto).0
readable_field r m h spelled key.NwTos = (service_parts r m h spelled).1
readable_field r m h spelled f = bits_readable r f (name_after h f) (bits_of m f) (is_named h f tt) (spelled f).0

fields_readable : (show : FieldId → List Shown) → ((f : FieldId) → AreReadable (show f)) → (fs : List FieldId) → AreReadable (flat_map show fs)
fields_readable show h [] = tt
fields_readable show h (f ∷ fs) = readable_more (show f) (flat_map show fs) (h f) (fields_readable show h fs)

pub shown_readable : ReadValues → (m : Match) → IsSpellable m → AreReadable (shown m)
unfolding shown
shown_readable r m s = fields_readable (shown_field m (shorthand_of m)) (readable_field r m (shorthand_of m) (are_spelled m s)) fields

-- ---- all fields

-- the order in which fields are stated where the shorthand states the protocol with the type
abbrev early : List FieldId
early =
    key.InPort ∷ key.Metadata ∷ key.Reg0 ∷ key.Reg1 ∷ key.Reg2 ∷ key.Reg3 ∷ key.Reg4 ∷ key.Reg5 ∷ key.Reg6 ∷ key.Reg7 ∷ key.Reg8 ∷ key.Reg9 ∷ key.Reg10 ∷ key.Reg11 ∷ key.Reg12 ∷ key.Reg13 ∷ key.Reg14 ∷ key.Reg15 ∷
    key.DlSrc ∷ key.DlDst ∷ key.DlType ∷ key.NwProto ∷ key.VlanTci ∷ key.NwSrc ∷ key.NwDst ∷ key.Ipv6Src ∷ key.Ipv6Dst ∷ key.NwTos ∷ key.NwTtl ∷ key.IpFrag ∷ key.ArpSha ∷ key.ArpTha ∷ key.TpSrc ∷ key.TpDst ∷ key.VlanTpid ∷ key.VlanTci2 ∷ key.VlanTpid2 ∷ []

abbrev IsComplete : List FieldId → Type 0
IsComplete fs = (f : FieldId) → is_in (place_of f) (seen_after [] fs) ≡ true

fields_complete : IsComplete fields
fields_complete key.InPort = refl
fields_complete f = refl

early_complete : IsComplete early
early_complete key.InPort = refl
early_complete f = refl

parts_append : (xs ys : List Shown) → all_parts (xs ++ ys) ≡ all_parts xs ++ all_parts ys
parts_append [] ys = refl
parts_append (x ∷ xs) ys = ap (λ ps. parts_of x ++ ps) (parts_append xs ys) ∙ sym (append_assoc (parts_of x) (all_parts xs) (all_parts ys))

parts_by_field : (show : FieldId → List Shown) (fs : List FieldId) → all_parts (flat_map show fs) ≡ flat_map (λ f. all_parts (show f)) fs
parts_by_field show [] = refl
parts_by_field show (f ∷ fs) = parts_append (show f) (flat_map show fs) ∙ ap (λ ps. all_parts (show f) ++ ps) (parts_by_field show fs)

same_parts : (a b : FieldId → List Part) → ((f : FieldId) → a f ≡ b f) → (fs : List FieldId) → flat_map a fs ≡ flat_map b fs
same_parts a b h [] = refl
same_parts a b h (f ∷ fs) = ap (λ ps. ps ++ flat_map a fs) (h f) ∙ ap (λ ps. b f ++ ps) (same_parts a b h fs)

late_type : (m : Match) (h : Option Shorthand) → says_protocol h ≡ false → all_parts (shown_field m h key.DlType) ≡ type_alone_or_short m h
late_type m None says = refl
late_type m (Some h) says = append-nil (short_parts h (protocol_stated h)) ∙ says_type h says

late_parts : (m : Match) (h : Option Shorthand) → says_protocol h ≡ false → (f : FieldId) → all_parts (shown_field m h f) ≡ block m h f
late_parts m h says key.DlType = late_type m h says
late_parts m h says key.NwProto = rw says refl
late_parts m h says f = refl

early_parts : (m : Match) (h : Shorthand) → HasShort m h → says_protocol (Some h) ≡ true → flat_map (λ f. all_parts (shown_field m (Some h) f)) fields ≡ flat_map (block m (Some h)) early
early_parts m h has says = rw (says_both m h has says, says) refl

abbrev IsParted : Match → Option Shorthand → Type 0
IsParted m h =
    FollowEachOther [] (flat_map (λ f. all_parts (shown_field m h f)) fields) × (match_of (kept (flat_map (λ f. all_parts (shown_field m h f)) fields)) ≡ m)

parted : ReadValues → (m : Match) → IsSpellable m → (h : Option Shorthand) → HasShortOrNone m h → AreSpelled m h → IsParted m h
parted r m s None has spelled =
    subst (λ ps. FollowEachOther [] ps × (match_of (kept ps) ≡ m)) (sym (same_parts (λ f. all_parts (shown_field m None f)) (block m None) (late_parts m None refl) fields))
    (all_together m (block m None) fields s.key_fields s.mask_fields (block_of r m None has spelled) refl fields_complete)
parted r m s (Some h) has spelled = by_test (says_protocol (Some h)) refl
  where
    by_test : (t : Bool) → says_protocol (Some h) ≡ t → IsParted m (Some h)
    by_test true says =
        subst (λ ps. FollowEachOther [] ps × (match_of (kept ps) ≡ m)) (sym (early_parts m h has says))
        (all_together m (block m (Some h)) early s.key_fields s.mask_fields (block_of r m (Some h) has spelled) refl early_complete)
    by_test false says =
        subst (λ ps. FollowEachOther [] ps × (match_of (kept ps) ≡ m)) (sym (same_parts (λ f. all_parts (shown_field m (Some h) f)) (block m (Some h)) (late_parts m (Some h) says) fields))
        (all_together m (block m (Some h)) fields s.key_fields s.mask_fields (block_of r m (Some h) has spelled) refl fields_complete)

pub shown_parts : ReadValues → (m : Match) → IsSpellable m → FollowEachOther [] (all_parts (shown m)) × (match_of (kept (all_parts (shown m))) ≡ m)
unfolding shown
shown_parts r m s =
    subst (λ ps. FollowEachOther [] ps × (match_of (kept ps) ≡ m)) (sym (parts_by_field (shown_field m (shorthand_of m)) fields)) (parted r m s (shorthand_of m) (has_short m) (are_spelled m s))
