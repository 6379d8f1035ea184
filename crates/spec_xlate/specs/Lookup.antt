-- The bits that a lookup in one table consults: tuple space search with staged lookup and prefix tracking (NSDI 2015,
-- sections 5.1, 5.3 and 5.4). Which fields are tracked is this profile's.
use Rattle.std.specs.Prelude.{ℕ, zero, suc, min, max, Bool, true, false, ◌&&◌, not, ◌==◌, nat_le, if◌then◌else◌, List, [], ◌∷◌, map, filter, fold, Option, Some, None, bit_and}
use Rattle.std.specs.List.{list_any, flat_map}
use Rattle.spec_base.specs.Bits.{leading_bits}
use Rattle.spec_keys.specs.declared.field_id.FieldId.{FieldId}
use Rattle.spec_keys.specs.declared.field_id.FieldId.TheVariants.{NwSrc, NwDst, Ipv6Src, Ipv6Dst}
use Rattle.spec_keys.specs.Fields.{place_of, width_of}
use Rattle.spec_keys.specs.Keys.{value_of, same, agree, joined, none, only_at}
use Rattle.spec_keys.specs.Stages.{metadata_stage, ethernet_stage, network_stage, staged}
use Rattle.spec_tables.specs.Rules.{Rule, winner}

-- Masks

-- a mask with the bits of these masks added
abbrev pub added : List ℕ → List (List ℕ) → List ℕ
added mask masks = fold joined mask masks

-- the bits of any of these masks
abbrev pub union : List (List ℕ) → List ℕ
union masks = added none masks

abbrev pub when : Bool → List (List ℕ) → List (List ℕ)
when true masks = masks
when false masks = []

-- Stages (NSDI 2015, section 5.3)

-- whether some rule of this mask agrees with the key on this part of the mask
abbrev pub some_agrees : List Rule → List ℕ → List ℕ → List ℕ → Bool
some_agrees rules key mask part = list_any (λ r. same r.matching.mask mask && agree key r.matching.key part) rules

-- the bits through a stage, and the further ones if some rule of the mask agrees with the key on these
abbrev pub stage_test : List Rule → List ℕ → List ℕ → ℕ → List (List ℕ) → List (List ℕ)
stage_test rules key mask stage further =
    staged stage mask ∷ when (some_agrees rules key mask (staged stage mask)) further

-- Prefixes (NSDI 2015, section 5.4)

-- the greatest length from 1 to n of which these bits are the prefix in a number of this width, or 0
unfoldable pub length_up_to : ℕ → ℕ → ℕ → ℕ
length_up_to width bits zero = 0
length_up_to width bits (suc n) = if bits == leading_bits width (suc n) then suc n else length_up_to width bits n

-- the length of the prefix that these bits of a number of this width are, or 0 where they are none
abbrev pub prefix_length : ℕ → ℕ → ℕ
prefix_length width bits = length_up_to width bits width

-- a prefix: the most significant bits of a number
pub record Prefix : Type 0 where
  pub value : ℕ
  pub length : ℕ

-- the prefix of a field that a rule states, of length 0 where the bits that it states are none
abbrev pub prefix_of : FieldId → Rule → Prefix
prefix_of f r = record { value = value_of r.matching.key f; length = prefix_length (width_of f) (value_of r.matching.mask f) }

-- the prefixes of a field that the rules state
abbrev pub prefixes : FieldId → List Rule → List Prefix
prefixes f rules = filter (λ p. not (p.length == 0)) (map (prefix_of f) rules)

-- whether two numbers of this width have the same n leading bits
abbrev pub starts_alike : ℕ → ℕ → ℕ → ℕ → Bool
starts_alike width x y n = bit_and x (leading_bits width n) == bit_and y (leading_bits width n)

-- how many leading bits two numbers of this width have in common, up to n
unfoldable pub common_length : ℕ → ℕ → ℕ → ℕ → ℕ
common_length width x y zero = 0
common_length width x y (suc n) = if starts_alike width x y (suc n) then suc n else common_length width x y n

-- whether a number of this width begins with a prefix
abbrev pub begins_with : ℕ → ℕ → Prefix → Bool
begins_with width x p = starts_alike width x p.value p.length

-- how many leading bits of a number decide whether it begins with a prefix: the prefix's length where it does, and
-- one more than they have in common where it doesn't
abbrev pub deciding_one : ℕ → ℕ → Prefix → ℕ
deciding_one width x p = if begins_with width x p then p.length else suc (common_length width x p.value p.length)

-- the deciding length: how many leading bits decide it for all of the prefixes
unfoldable pub deciding : ℕ → ℕ → List Prefix → ℕ
deciding width x [] = 0
deciding width x (p ∷ ps) = max (deciding_one width x p) (deciding width x ps)

-- whether a number begins with one of the prefixes that has this length
abbrev pub some_begins : ℕ → ℕ → ℕ → List Prefix → Bool
some_begins width x n ps = list_any (λ p. (p.length == n) && begins_with width x p) ps

-- the fields whose prefixes are tracked (this profile)
abbrev pub tracked_fields : List FieldId
tracked_fields = NwSrc ∷ NwDst ∷ Ipv6Src ∷ Ipv6Dst ∷ []

-- the n leading bits of a field
abbrev pub leading : FieldId → ℕ → List ℕ
leading f n = only_at (place_of f) (leading_bits (width_of f) n)

-- where a mask has n leading bits of a field: these bits and the further ones if a prefix of this length matches,
-- and else as many of them as decide
abbrev pub prefix_test_of : FieldId → ℕ → List Prefix → ℕ → List (List ℕ) → List (List ℕ)
prefix_test_of f x ps n further =
    if n == 0 then further
    else (if some_begins (width_of f) x n ps then leading f n ∷ further
    else leading f (min (deciding (width_of f) x ps) n) ∷ [])

abbrev pub prefix_test : List Rule → List ℕ → List ℕ → FieldId → List (List ℕ) → List (List ℕ)
prefix_test rules key mask f further =
    prefix_test_of f (value_of key f) (prefixes f rules) (prefix_length (width_of f) (value_of mask f)) further

abbrev pub prefix_tests : List Rule → List ℕ → List ℕ → List FieldId → List (List ℕ) → List (List ℕ)
prefix_tests rules key mask [] further = further
prefix_tests rules key mask (f ∷ fs) further = prefix_test rules key mask f (prefix_tests rules key mask fs further)

-- Lookups (NSDI 2015, section 5.1)

-- what one mask of the table consults: its stages in order, the last of which reaches the whole mask
unfoldable pub probe : List Rule → List ℕ → List ℕ → List (List ℕ)
probe rules key mask =
    stage_test rules key mask metadata_stage
    (stage_test rules key mask ethernet_stage
    (prefix_tests rules key mask tracked_fields
    (stage_test rules key mask network_stage
    (mask ∷ []))))

-- the priority below which no rule can win
abbrev pub priority_to_beat : Option Rule → ℕ
priority_to_beat None = 0
priority_to_beat (Some w) = w.priority

-- the rules whose priority isn't below p
abbrev pub rules_from : ℕ → List Rule → List Rule
rules_from p rules = filter (λ r. nat_le p r.priority) rules

-- what a lookup consults: the masks of all rules that may beat the winner or tie with it. Masks whose rules are all of
-- less priority are never reached (NSDI 2015, section 5.2)
unfoldable pub consults : List Rule → List ℕ → List (List ℕ)
consults rules key =
    flat_map (λ r. probe rules key r.matching.mask) (rules_from (priority_to_beat (winner rules key)) rules)
