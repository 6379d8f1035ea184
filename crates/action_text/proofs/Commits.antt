-- What commit gives is within the fields that it writes.
use Rattle.std.proofs.Common.{◌≡◌, ℕ, ◌^◌, ◌<◌, nat_lt, List, [], ◌∷◌, ◌++◌, map, IsTrue, true, false, ◌==◌, if◌then◌else◌, refl, arith, lt-ltb}
use Rattle.std.specs.Prelude.{not, bit_and, bit_xor}
use Rattle.std.specs.List.{list_all}
use Rattle.std.proofs.lemmas.Bool.{and_parts, and_from, not-true}
use Rattle.std.proofs.lemmas.Nat.{and_le_r, xor_lt}
use Rattle.spec_keys.specs.declared.field_id.FieldId.{FieldId}
use Rattle.spec_keys.specs.Fields.{place_of, width_of}
use Rattle.spec_keys.specs.Keys.{value_of, IsKey}
use Rattle.spec_actions.specs.declared.action.DpAction.{DpAction}
use Rattle.spec_actions.specs.declared.action.DpAction.TheVariants.{PopVlan, PushVlan, Set}
use Rattle.spec_xlate.specs.Tags.{VlanTag, tags_of, outer_tags, commit_tags}
use Rattle.spec_xlate.specs.Commit.{fields_before_tags, fields_after_tags, commit_field, commit_fields, commit}
use Rattle.spec_flow_text.specs.Within.{is_within_field}
use Rattle.action_text.proofs.Numbers.{is_type_place, FitsFields, fits_from_key, value_fits}

abbrev pub are_within : List DpAction → Type 0
are_within actions = IsTrue (list_all is_within_field actions)

pub joined : (xs ys : List DpAction) → are_within xs → are_within ys → are_within (xs ++ ys)
joined [] ys first second = second
joined (x ∷ xs) ys first second =
    let parts = and_parts (is_within_field x) (list_all is_within_field xs) first in
    and_from (is_within_field x) (list_all is_within_field (xs ++ ys)) parts.0 (joined xs ys parts.1 second)

field_within : (f : FieldId) (before after : ℕ) → before < 2 ^ width_of f → after < 2 ^ width_of f → are_within (commit_field f before after)
unfolding commit_field
field_within f before after below_before below_after =
    let mask = bit_xor before after in
    let value = bit_and after mask in
    let mask_below : mask < 2 ^ width_of f = xor_lt (width_of f) before after below_before below_after in
    let value_below : value < 2 ^ width_of f = omega (arith, mask_below, and_le_r after mask) in
    let set_within : are_within (Set f value mask ∷ []) =
    and_from (is_within_field (Set f value mask)) true
    (and_from (nat_lt value (2 ^ width_of f)) (nat_lt mask (2 ^ width_of f)) (lt-ltb value (2 ^ width_of f) value_below) (lt-ltb mask (2 ^ width_of f) mask_below)) refl in
    elim (before == after) as (λ b. are_within (if b then [] else Set f value mask ∷ [])) [ true ↦ refl | false ↦ set_within ]

fields_within : (fs : List FieldId) (base current : List ℕ) → list_all (λ f. not (is_type_place (place_of f))) fs ≡ true → FitsFields base → FitsFields current
    → are_within (commit_fields fs base current)
unfolding commit_fields
fields_within [] base current h base_fits current_fits = refl
fields_within (f ∷ fs) base current h base_fits current_fits =
    let parts = and_parts (not (is_type_place (place_of f))) (list_all (λ g. not (is_type_place (place_of g))) fs) h in
    let is_written = not-true (is_type_place (place_of f)) parts.0 in
    joined (commit_field f (value_of base f) (value_of current f)) (commit_fields fs base current)
    (field_within f (value_of base f) (value_of current f) (value_fits base f base_fits is_written) (value_fits current f current_fits is_written))
    (fields_within fs base current parts.1 base_fits current_fits)

pops_within : (tags : List VlanTag) → are_within (map (λ t. PopVlan) tags)
pops_within [] = refl
pops_within (t ∷ tags) = pops_within tags

pushes_within : (tags : List VlanTag) → are_within (map (λ t. PushVlan t.tpid t.tci) tags)
pushes_within [] = refl
pushes_within (t ∷ tags) = pushes_within tags

tags_within : (before after : List VlanTag) → are_within (commit_tags before after)
unfolding commit_tags
tags_within before after =
    joined (map (λ t. PopVlan) (outer_tags before after)) (map (λ t. PushVlan t.tpid t.tci) (outer_tags after before))
    (pops_within (outer_tags before after)) (pushes_within (outer_tags after before))

pub commit_from_fits : (base current : List ℕ) → FitsFields base → FitsFields current → are_within (commit base current)
unfolding commit
commit_from_fits base current base_fits current_fits =
    let tags = commit_tags (tags_of base) (tags_of current) in
    let after = commit_fields fields_after_tags base current in
    joined (commit_fields fields_before_tags base current) (tags ++ after) (fields_within fields_before_tags base current refl base_fits current_fits)
    (joined tags after (tags_within (tags_of base) (tags_of current)) (fields_within fields_after_tags base current refl base_fits current_fits))

pub commit_within : (base current : List ℕ) → IsKey base → IsKey current → are_within (commit base current)
commit_within base current is_base is_current = commit_from_fits base current (fits_from_key base is_base) (fits_from_key current is_current)
