-- What datapath actions make of a frame, as its key shows it.
use Rattle.std.specs.Prelude.{ℕ, Bool, ◌&&◌, ◌||◌, ◌==◌, if◌then◌else◌, List, ◌++◌, set, fold, IsTrue}
use Rattle.std.specs.List.{list_any}
use Rattle.spec_keys.specs.declared.field_id.FieldId.{FieldId}
use Rattle.spec_keys.specs.Fields.{place_of}
use Rattle.spec_keys.specs.Keys.{value_of}
use Rattle.spec_actions.specs.declared.action.DpAction.{DpAction}
use Rattle.spec_actions.specs.declared.action.DpAction.TheVariants.{Output, PopVlan, PushVlan, Set}
use Rattle.spec_xlate.specs.Tags.{VlanTag, is_tag, tag_fields, outer_tag, inner_tag, no_tag, is_same_tag, with_tags, popped}
use Rattle.spec_xlate.specs.Commit.{fields_before_tags, fields_after_tags}
use Rattle.spec_base.specs.Bits.{merged}
use Rattle.spec_xlate.specs.Translation.{State}

-- the key of a frame after a datapath action
abbrev pub after_action : List ℕ → DpAction → List ℕ
after_action key (Output n) = key
after_action key PopVlan = popped key
after_action key (PushVlan tpid tci) = with_tags (record { tpid = tpid; tci = tci }) (outer_tag key) key
after_action key (Set f value mask) = set key (place_of f) (merged (value_of key f) value mask)

-- the key of a frame after these datapath actions
abbrev pub applied : List DpAction → List ℕ → List ℕ
applied actions key = fold after_action key actions

-- the fields of a frame that datapath actions write
abbrev pub frame_fields : List FieldId
frame_fields = fields_before_tags ++ (tag_fields ++ fields_after_tags)

-- whether they write this field
abbrev pub is_frame_field : FieldId → Bool
is_frame_field f = list_any (λ g. place_of f == place_of g) frame_fields

-- whether a tag is one, or all of it is 0
abbrev pub is_tag_or_none : VlanTag → Bool
is_tag_or_none t = is_tag t.tci || is_same_tag t no_tag

-- whether each tag of a key is one, or all of it is 0, and there is an inner one only where there is an outer one, as in
-- the key of every frame
abbrev pub is_proper : List ℕ → Bool
is_proper key =
    if is_tag (outer_tag key).tci then is_tag_or_none (inner_tag key)
    else is_same_tag (outer_tag key) no_tag && is_same_tag (inner_tag key) no_tag

-- The current and the base key of a translation have such tags.
pub record HasProperTags (s : State) : Type 0 where
  pub current : IsTrue (is_proper s.current)
  pub base : IsTrue (is_proper s.base)
