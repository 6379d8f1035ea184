-- The VLAN tags of a packet (IEEE 802.1Q; ovs-actions(7), "push_vlan" and "pop_vlan"). A key holds at most two, an outer
-- and an inner one.
use Rattle.std.specs.Prelude.{ℕ, Bool, true, false, not, ◌&&◌, ◌==◌, if◌then◌else◌, List, [], ◌∷◌, ◌++◌, map, set, bit_and}
use Rattle.spec_keys.specs.declared.field_id.FieldId.{FieldId}
use Rattle.spec_keys.specs.declared.field_id.FieldId.TheVariants.{VlanTci, VlanTpid, VlanTci2, VlanTpid2}
use Rattle.spec_keys.specs.Keys.{value_of}
use Rattle.spec_keys.specs.Fields.{place_of}
use Rattle.spec_keys.specs.Protocols.{tag_bit, customer_tag}
use Rattle.spec_actions.specs.declared.action.DpAction.{DpAction}
use Rattle.spec_actions.specs.declared.action.DpAction.TheVariants.{PopVlan, PushVlan}

-- whether a vlan_tci is that of a tag
abbrev pub is_tag : ℕ → Bool
is_tag tci = not (bit_and tci tag_bit == 0)

-- the fields in which a key holds its tags; they change together
abbrev pub tag_fields : List FieldId
tag_fields = VlanTci ∷ VlanTpid ∷ VlanTci2 ∷ VlanTpid2 ∷ []

-- whether actions read and write a field as that of the outer tag's content
abbrev pub is_tag_field : FieldId → Bool
is_tag_field VlanTci = true
is_tag_field f = false

-- a tag: its type, and its content with bit 0x1000
pub record VlanTag : Type 0 where
  pub tpid : ℕ
  pub tci : ℕ

abbrev pub outer_tag : List ℕ → VlanTag
outer_tag key = record { tpid = value_of key VlanTpid; tci = value_of key VlanTci }

abbrev pub inner_tag : List ℕ → VlanTag
inner_tag key = record { tpid = value_of key VlanTpid2; tci = value_of key VlanTci2 }

-- no tag
abbrev pub no_tag : VlanTag
no_tag = record { tpid = 0; tci = 0 }

-- the tags of a key, the innermost first; there is an inner one only where there is an outer one
abbrev pub tags_of : List ℕ → List VlanTag
tags_of key =
    if is_tag (outer_tag key).tci
    then (if is_tag (inner_tag key).tci then inner_tag key ∷ outer_tag key ∷ [] else outer_tag key ∷ [])
    else []

-- a key with these tags, an outer and an inner one
abbrev pub with_tags : VlanTag → VlanTag → List ℕ → List ℕ
with_tags outer inner key =
    set (set (set (set key (place_of VlanTci) outer.tci) (place_of VlanTpid) outer.tpid) (place_of VlanTci2) inner.tci)
    (place_of VlanTpid2) inner.tpid

-- a key without its outer tag, in whose place the inner one comes
abbrev pub popped : List ℕ → List ℕ
popped key = with_tags (inner_tag key) no_tag key

-- the type of an outer tag that is written: a customer's where there was none (this profile)
abbrev pub type_of_written : ℕ → ℕ
type_of_written tpid = if tpid == 0 then customer_tag else tpid

-- a key whose outer tag has this content; a content without bit 0x1000 takes that tag away (this profile)
abbrev pub tagged : ℕ → List ℕ → List ℕ
tagged tci key =
    if is_tag tci then with_tags (record { tpid = type_of_written (outer_tag key).tpid; tci = tci }) (inner_tag key) key
    else popped key

-- a key with one more tag outside, of this type, VLAN 0 and priority 0
abbrev pub pushed : ℕ → List ℕ → List ℕ
pushed tpid key = with_tags (record { tpid = tpid; tci = tag_bit }) (outer_tag key) key

-- whether a key has as many tags as it can hold
abbrev pub is_full : List ℕ → Bool
is_full key = is_tag (inner_tag key).tci

abbrev pub is_same_tag : VlanTag → VlanTag → Bool
is_same_tag t o = (t.tci == o.tci) && (t.tpid == o.tpid)

-- the tags of the first list outside of those, the innermost ones, that it shares with the second
unfoldable pub outer_tags : List VlanTag → List VlanTag → List VlanTag
outer_tags [] others = []
outer_tags (t ∷ ts) [] = t ∷ ts
outer_tags (t ∷ ts) (o ∷ os) = if is_same_tag t o then outer_tags ts os else t ∷ ts

-- the datapath actions that turn tags into others: those that aren't shared go, and the new ones come
unfoldable pub commit_tags : List VlanTag → List VlanTag → List DpAction
commit_tags before after =
    map (λ t. PopVlan) (outer_tags before after) ++ map (λ t. PushVlan t.tpid t.tci) (outer_tags after before)
