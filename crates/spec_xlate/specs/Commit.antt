-- The datapath actions that make a frame of one key into a frame of another (this profile; Open vSwitch composes them
-- in the same way, lib/odp-util.c).
use Rattle.std.specs.Prelude.{ℕ, ◌==◌, if◌then◌else◌, List, [], ◌∷◌, ◌++◌, bit_and, bit_xor}
use Rattle.spec_keys.specs.declared.field_id.FieldId.{FieldId}
use Rattle.spec_keys.specs.declared.field_id.FieldId.TheVariants.{DlSrc, DlDst, NwSrc, NwDst, Ipv6Src, Ipv6Dst, NwTos, NwTtl, ArpSha, ArpTha, TpSrc, TpDst}
use Rattle.spec_keys.specs.Keys.{value_of}
use Rattle.spec_actions.specs.declared.action.DpAction.{DpAction}
use Rattle.spec_actions.specs.declared.action.DpAction.TheVariants.{Set}
use Rattle.spec_xlate.specs.Tags.{tags_of, commit_tags}

-- the fields of a frame that change in place, those before the tags and those after them
abbrev pub fields_before_tags : List FieldId
fields_before_tags = DlSrc ∷ DlDst ∷ []

abbrev pub fields_after_tags : List FieldId
fields_after_tags = NwSrc ∷ NwDst ∷ Ipv6Src ∷ Ipv6Dst ∷ NwTos ∷ NwTtl ∷ ArpSha ∷ ArpTha ∷ TpSrc ∷ TpDst ∷ []

-- the datapath actions that turn the value of a field into another: none, or one that writes the bits that differ
unfoldable pub commit_field : FieldId → ℕ → ℕ → List DpAction
commit_field f before after =
    if before == after then [] else Set f (bit_and after (bit_xor before after)) (bit_xor before after) ∷ []

unfoldable pub commit_fields : List FieldId → List ℕ → List ℕ → List DpAction
commit_fields [] base current = []
commit_fields (f ∷ fs) base current =
    commit_field f (value_of base f) (value_of current f) ++ commit_fields fs base current

-- the datapath actions that make a frame of key base into one of key current
unfoldable pub commit : List ℕ → List ℕ → List DpAction
commit base current =
    commit_fields fields_before_tags base current
    ++ (commit_tags (tags_of base) (tags_of current) ++ commit_fields fields_after_tags base current)
