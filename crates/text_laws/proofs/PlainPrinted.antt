-- What is printed of a list of actions and of a match has plain characters alone.
use Rattle.std.proofs.Common.{◌≡◌, ℕ, ◌<◌, ◌^◌, Bool, true, false, cond, List, [], ◌∷◌, ◌++◌, refl, subst, arith, Option, Some, None, decimal}
use Rattle.std.specs.Prelude.{◌&&◌, ◌==◌, codes, bit_and, map}
use Rattle.std.specs.List.{list_all, flat_map}
use Rattle.std.proofs.lemmas.Bool.{and_from, and_parts, ltb-true}
use Rattle.std.proofs.lemmas.Nat.{and_le_l}
use Rattle.spec_base.specs.Bits.{all_bits}
use Rattle.spec_keys.specs.declared.field_id.FieldId.{FieldId}
use Rattle.spec_keys.specs.declared.field_id.FieldId.TheVariants as key
use Rattle.spec_keys.specs.Fields.{fields, place_of, width_of, widths}
use Rattle.spec_keys.specs.Keys.{IsKey, number_at}
use Rattle.spec_keys.specs.Keys as keys
use Rattle.spec_actions.specs.declared.named_field.NamedField.{NamedField}
use Rattle.spec_actions.specs.declared.named_field.NamedField.TheVariants as name
use Rattle.spec_actions.specs.declared.action.Slice.{Slice}
use Rattle.spec_actions.specs.declared.action.OfAction.{OfAction}
use Rattle.spec_actions.specs.declared.action.OfAction.TheVariants.{Output, OutputField, InPort, All, Flood, Resubmit, Goto, Set, Move, DecTtl, PushVlan, PopVlan, SetVid, SetPcp}
use Rattle.spec_actions.specs.Named.{named, dscp_bits}
use Rattle.spec_actions.specs.Sound.{is_written, fits_name, is_sound}
use Rattle.spec_tables.specs.Rules.{Match}
use Rattle.spec_keys.specs.Protocols.{is_tag_type}
use Rattle.spec_flow_text.specs.NumbersPrinted.{hexadecimal4}
use Rattle.spec_flow_text.specs.Characters.{dot, equals_sign, left_bracket, right_bracket, right_parenthesis}
use Rattle.spec_flow_text.specs.declared.shorthand.Shorthand.{Shorthand}
use Rattle.spec_flow_text.specs.declared.shorthand.Shorthand.TheVariants as short
use Rattle.spec_flow_text.specs.Names.{name_of}
use Rattle.spec_flow_text.specs.Values.{Bits, bits, within_mask}
use Rattle.spec_flow_text.specs.Printed.{printed_form, value_in_text, Shown, Short, Value, shown_text, shown_bits, bits_of, shorthand_of, own_name, name_after_arp, name_after_icmp, name_after, says_protocol, ecn_bits, none_or_all, shown_part, shown_service, shown_type, shown_field, shown, match_printed, slice_text, action_text, actions_printed}
use Rattle.text_laws.specs.Texts.{is_plain}
use Rattle.text_laws.proofs.TagTypes.{of_each_type}
use Rattle.text_laws.proofs.PlainValues.{ValueTexts, IsPlain, plain_append, decimal_plain, IsWithin, AreWithin, value_in_text_plain, name_plain, named_within, joined_plain}

-- ---- actions

slice_plain : (s : Slice) → IsPlain (slice_text s)
slice_plain s =
    plain_append (name_of s.name) (left_bracket ∷ (decimal s.low ++ (dot ∷ dot ∷ (decimal s.high ++ right_bracket ∷ [])))) (name_plain s.name) (
    plain_append (decimal s.low) (dot ∷ dot ∷ (decimal s.high ++ right_bracket ∷ [])) (decimal_plain s.low) (plain_append (decimal s.high) (right_bracket ∷ []) (decimal_plain s.high) refl)
    )

push_plain : (tpid : ℕ) → is_tag_type tpid ≡ true → IsPlain (action_text (PushVlan tpid))
unfolding hexadecimal4
push_plain tpid h = of_each_type (λ n. IsPlain (action_text (PushVlan n))) refl refl tpid h

pub action_plain : ValueTexts → (a : OfAction) → is_sound a ≡ true → IsPlain (action_text a)
action_plain v (Output port) h = plain_append (codes "output:") (decimal port) refl (decimal_plain port)
action_plain v (OutputField s) h = plain_append (codes "output:") (slice_text s) refl (slice_plain s)
action_plain v InPort h = refl
action_plain v All h = refl
action_plain v Flood h = refl
action_plain v (Resubmit table) h = plain_append (codes "resubmit(,") (decimal table ++ right_parenthesis ∷ []) refl (plain_append (decimal table) (right_parenthesis ∷ []) (decimal_plain table) refl)
action_plain v (Goto table) h = plain_append (codes "goto_table:") (decimal table) refl (decimal_plain table)
action_plain v (Set f value mask) h =
    let fits = and_parts (fits_name f value) (fits_name f mask) (and_parts (is_written f) (fits_name f value && fits_name f mask) h).1 in
    let below : bit_and value mask < 2 ^ (named f).bits = omega (arith, ltb-true value (2 ^ (named f).bits) fits.0, and_le_l value mask) in
    let b = within_mask (bits value mask) in
    let within : AreWithin (printed_form f) b =
    (named_within f (bit_and value mask) below, named_within f mask (ltb-true mask (2 ^ (named f).bits) fits.1)) in
    plain_append (codes "set_field:") (value_in_text f b ++ (codes "->" ++ name_of f)) refl (
    plain_append (value_in_text f b) (codes "->" ++ name_of f) (value_in_text_plain v f b within) (plain_append (codes "->") (name_of f) refl (name_plain f))
    )
action_plain v (Move source target) h =
    plain_append (codes "move:") (slice_text source ++ (codes "->" ++ slice_text target)) refl (
    plain_append (slice_text source) (codes "->" ++ slice_text target) (slice_plain source) (plain_append (codes "->") (slice_text target) refl (slice_plain target))
    )
action_plain v DecTtl h = refl
action_plain v (PushVlan tpid) h = push_plain tpid h
action_plain v PopVlan h = refl
action_plain v (SetVid vid) h = plain_append (codes "mod_vlan_vid:") (decimal vid) refl (decimal_plain vid)
action_plain v (SetPcp pcp) h = plain_append (codes "mod_vlan_pcp:") (decimal pcp) refl (decimal_plain pcp)

all_plain : ValueTexts → (actions : List OfAction) → list_all is_sound actions ≡ true → list_all is_plain (map action_text actions) ≡ true
all_plain v [] h = refl
all_plain v (a ∷ actions) h =
    let p = and_parts (is_sound a) (list_all is_sound actions) h in
    and_from (is_plain (action_text a)) (list_all is_plain (map action_text actions)) (action_plain v a p.0) (all_plain v actions p.1)

pub actions_plain : ValueTexts → (actions : List OfAction) → list_all is_sound actions ≡ true → IsPlain (actions_printed actions)
unfolding actions_printed
actions_plain v [] h = refl
actions_plain v (a ∷ actions) h = joined_plain (map action_text (a ∷ actions)) (all_plain v (a ∷ actions) h)

-- ---- matches

abbrev ArePlain : List Shown → Type 0
ArePlain xs = list_all is_plain (map shown_text xs) ≡ true

plain_more : (xs ys : List Shown) → ArePlain xs → ArePlain ys → ArePlain (xs ++ ys)
plain_more [] ys h k = k
plain_more (x ∷ xs) ys h k =
    let p = and_parts (is_plain (shown_text x)) (list_all is_plain (map shown_text xs)) h in
    and_from (is_plain (shown_text x)) (list_all is_plain (map shown_text (xs ++ ys))) p.0 (plain_more xs ys p.1 k)

one_plain : (x : Shown) → IsPlain (shown_text x) → ArePlain (x ∷ [])
one_plain x h = and_from (is_plain (shown_text x)) true h refl

value_shown_plain : ValueTexts → (f : NamedField) (b : Bits) → AreWithin (printed_form f) b → ArePlain (Value f b ∷ [])
value_shown_plain v f b h = one_plain (Value f b) (plain_append (name_of f) (equals_sign ∷ value_in_text f b) (name_plain f) (value_in_text_plain v f b h))

cond_plain : (t : Bool) (xs ys : List Shown) → ArePlain xs → ArePlain ys → ArePlain (cond t xs ys)
cond_plain true xs ys h k = h
cond_plain false xs ys h k = k

-- a field of a width is shown under names that have room for its numbers
abbrev HasRoom : FieldId → NamedField → Type 0
HasRoom f n = (number : ℕ) → number < 2 ^ width_of f → IsWithin (printed_form n) number

own_room : (f : FieldId) → HasRoom f (own_name f)
own_room key.DlType number h = h
own_room key.VlanTci number h = h
own_room key.VlanTpid number h = h
own_room key.VlanTci2 number h = h
own_room key.VlanTpid2 number h = h
own_room f number h = tt

arp_room : (f : FieldId) → HasRoom f (name_after_arp f)
arp_room key.DlType number h = h
arp_room key.VlanTci number h = h
arp_room key.VlanTpid number h = h
arp_room key.VlanTci2 number h = h
arp_room key.VlanTpid2 number h = h
arp_room f number h = tt

icmp_room : (f : FieldId) → HasRoom f (name_after_icmp f)
icmp_room key.DlType number h = h
icmp_room key.VlanTci number h = h
icmp_room key.VlanTpid number h = h
icmp_room key.VlanTci2 number h = h
icmp_room key.VlanTpid2 number h = h
icmp_room f number h = tt

room_after : (h : Option Shorthand) (f : FieldId) → HasRoom f (name_after h f)
room_after (Some short.Arp) f = arp_room f
room_after (Some short.Icmp) f = icmp_room f
room_after (Some short.Icmp6) f = icmp_room f
room_after h f = own_room f

shown_bits_plain : ValueTexts → (f : FieldId) (n : NamedField) (b : Bits) → HasRoom f n → b.value < 2 ^ width_of f → b.mask < 2 ^ width_of f → ArePlain (shown_bits n b)
shown_bits_plain v f n b room value mask =
    let less : bit_and b.value b.mask < 2 ^ width_of f = omega (arith, value, and_le_l b.value b.mask) in
    cond_plain (b.mask == 0) [] (Value n (bits (bit_and b.value b.mask) b.mask) ∷ []) refl (value_shown_plain v n (bits (bit_and b.value b.mask) b.mask) (room (bit_and b.value b.mask) less, room b.mask mask))

width_at : (f : FieldId) → number_at widths (place_of f) ≡ width_of f
unfolding widths
width_at key.InPort = refl
width_at f = refl

number_within : (list : List ℕ) (f : FieldId) → IsKey list → keys.value_of list f < 2 ^ width_of f
number_within list f h = subst (λ width. keys.value_of list f < 2 ^ width) (width_at f) (h.fit (place_of f))

shorthand_plain : (h : Shorthand) → ArePlain (Short h ∷ [])
shorthand_plain short.Ip = refl
shorthand_plain h = refl

service_plain : ValueTexts → (b : Bits) → b.value < 2 ^ width_of key.NwTos → b.mask < 2 ^ width_of key.NwTos → ArePlain (shown_service b)
service_plain v b value mask =
    cond_plain (none_or_all dscp_bits b.mask && none_or_all ecn_bits b.mask) (shown_part name.NwTos (bit_and dscp_bits b.mask) (bit_and b.value dscp_bits) ++ shown_part name.NwEcn (bit_and ecn_bits b.mask) (bit_and b.value ecn_bits)) (shown_bits name.NwTos b)
    (plain_more (shown_part name.NwTos (bit_and dscp_bits b.mask) (bit_and b.value dscp_bits)) (shown_part name.NwEcn (bit_and ecn_bits b.mask) (bit_and b.value ecn_bits)) (dscp (bit_and dscp_bits b.mask) (bit_and b.value dscp_bits)) (ecn (bit_and ecn_bits b.mask) (bit_and b.value ecn_bits)))
    (shown_bits_plain v key.NwTos name.NwTos b (own_room key.NwTos) value mask)
  where
    dscp : (present n : ℕ) → ArePlain (shown_part name.NwTos present n)
    dscp present n = cond_plain (present == 0) [] (Value name.NwTos (bits n (all_bits 8)) ∷ []) refl (value_shown_plain v name.NwTos (bits n (all_bits 8)) (tt, tt))

    ecn : (present n : ℕ) → ArePlain (shown_part name.NwEcn present n)
    ecn present n = cond_plain (present == 0) [] (Value name.NwEcn (bits n (all_bits 2)) ∷ []) refl (value_shown_plain v name.NwEcn (bits n (all_bits 2)) (tt, tt))

type_plain : ValueTexts → (h : Option Shorthand) (b : Bits) → b.value < 2 ^ width_of key.DlType → b.mask < 2 ^ width_of key.DlType → ArePlain (shown_type h b)
type_plain v None b value mask = shown_bits_plain v key.DlType name.DlType b (own_room key.DlType) value mask
type_plain v (Some h) b value mask = shorthand_plain h

field_plain : ValueTexts → (m : Match) (h : Option Shorthand) → IsKey m.key → IsKey m.mask → (f : FieldId) → ArePlain (shown_field m h f)
field_plain v m h k n key.DlType = type_plain v h (bits_of m key.DlType) (number_within m.key key.DlType k) (number_within m.mask key.DlType n)
field_plain v m h k n key.NwProto =
    cond_plain (says_protocol h) [] (shown_bits (name_after h key.NwProto) (bits_of m key.NwProto)) refl (shown_bits_plain v key.NwProto (name_after h key.NwProto) (bits_of m key.NwProto) (room_after h key.NwProto) (number_within m.key key.NwProto k) (number_within m.mask key.NwProto n))
field_plain v m h k n key.NwTos = service_plain v (bits_of m key.NwTos) (number_within m.key key.NwTos k) (number_within m.mask key.NwTos n)
field_plain v m h k n f = shown_bits_plain v f (name_after h f) (bits_of m f) (room_after h f) (number_within m.key f k) (number_within m.mask f n)

fields_plain : (show : FieldId → List Shown) → ((f : FieldId) → ArePlain (show f)) → (fs : List FieldId) → ArePlain (flat_map show fs)
fields_plain show h [] = refl
fields_plain show h (f ∷ fs) = plain_more (show f) (flat_map show fs) (h f) (fields_plain show h fs)

pub match_plain : ValueTexts → (m : Match) → IsKey m.key → IsKey m.mask → IsPlain (match_printed m)
unfolding match_printed shown
match_plain v m k n = joined_plain (map shown_text (shown m)) (fields_plain (shown_field m (shorthand_of m)) (field_plain v m (shorthand_of m) k n) fields)
