-- A subtable, and the rules of its mask.
use Rattle.std.specs.Prelude.{◌≡◌, ℕ, ◌<◌, ◌^◌, ◌==◌, ◌&&◌, Bool, true, false, nat_le, if◌then◌else◌, List, [], ◌∷◌, ◌++◌, length, map, filter, Option, Some, None}
use Rattle.std.specs.Option.{option_map}
use Rattle.spec_keys.specs.Fields.{field_count}
use Rattle.spec_keys.specs.Keys.{none, masked, same}
use Rattle.spec_keys.specs.Stages.{staged, metadata_stage, ethernet_stage, network_stage}
use Rattle.spec_tables.specs.Rules.{Rule, winner}
use Rattle.table_laws.specs.Members.{Among}
use Rattle.ovs_fields.specs.Packed.{bits}
use Rattle.rule_tables.specs.declared.matching.Match.{Match}
use Rattle.rule_tables.specs.Views.{match_view}
use Rattle.masked_map.specs.Maps.{mask_of}
use Rattle.staged_lookup.specs.declared.probe.Probe.{Probe}
use Rattle.staged_lookup.specs.declared.probe.Probe.TheVariants.{Ended, Best}
use Rattle.staged_lookup.specs.declared.rank.Rank.{Rank}
use Rattle.staged_lookup.specs.Numbered.{AreDistinct, HasNumberAt, HasNoNumber}
use Rattle.staged_lookup.specs.declared.subtable.Subtable.{Subtable}
use Rattle.staged_lookup.specs.Counts.{ranks_at}
use Rattle.staged_lookup.specs.Ranks.{rank_of}
use Rattle.staged_lookup.specs.Stages.{IsStage, some_agrees}

-- the ranks of the rules with this key
abbrev pub ranks_with : List ℕ → List Rule → List Rank
ranks_with key rs = map rank_of (filter (λ r. same key r.matching.key) rs)

-- a rule of this mask: its key has no bits outside, and a number for each field
pub record IsOfMask (mask : List ℕ) (r : Rule) : Type 0 where
  pub mask_is : r.matching.mask ≡ mask
  pub normalised : masked r.matching.key mask ≡ r.matching.key
  pub fields : length r.matching.key ≡ field_count

-- whether a rule has this key and priority
abbrev pub has_priority : List ℕ → ℕ → Rule → Bool
has_priority key priority r = same key r.matching.key && (r.priority == priority)

-- the subtable has these rules, which are all of its mask, and no two of one number, which has 32 bits
pub record IsSubtableOf (s : Subtable) (rs : List Rule) : Type 0 where
  pub of_mask : (r : Rule) → Among r rs → IsOfMask (bits s.mask) r
  pub masks : mask_of s.buckets ≡ bits s.mask
  pub distinct : AreDistinct rs
  pub narrow : (r : Rule) → Among r rs → r.number < 2 ^ 32
  pub ranked : (key : List ℕ) → ranks_at s.buckets key ≡ ranks_with key rs
  pub metadata : IsStage s.metadata none (staged metadata_stage (bits s.mask)) (bits s.mask) rs
  pub ethernet : IsStage s.ethernet (staged metadata_stage (bits s.mask)) (staged ethernet_stage (bits s.mask)) (bits s.mask) rs
  pub network : IsStage s.network (staged ethernet_stage (bits s.mask)) (staged network_stage (bits s.mask)) (bits s.mask) rs
  pub count : s.rules ≡ length rs

-- one of its rules has this number and this key
abbrev pub HasRule : ℕ → List ℕ → Subtable → Type 0
HasRule number key s = (rs : List Rule) × IsSubtableOf s rs × HasNumberAt number key rs

-- none of its rules has it
abbrev pub HasNoRule : ℕ → Subtable → Type 0
HasNoRule number s = (rs : List Rule) × IsSubtableOf s rs × HasNoNumber number rs

-- the second subtable has whatever rules the first has, and one more of this number and priority with this match
abbrev pub AddsRule : ℕ → ℕ → Match → Subtable → Subtable → Type 0
AddsRule number priority m old new = (rs : List Rule) (r : Rule) → IsSubtableOf old rs → r.number ≡ number → r.priority ≡ priority → r.matching ≡ match_view m → IsSubtableOf new (rs ++ r ∷ [])

-- or the same
abbrev pub KeepsRules : Subtable → Subtable → Type 0
KeepsRules old new = (rs : List Rule) → IsSubtableOf old rs → IsSubtableOf new rs

-- the part of a mask that a stage reaches, with those before it; the last reaches all
abbrev pub part_through : ℕ → List ℕ → List ℕ
part_through stage mask = if nat_le stage network_stage then staged stage mask else mask

-- some rule agrees with a key on each stage before this one
abbrev pub PassesTo : ℕ → List ℕ → List ℕ → List Rule → Type 0
PassesTo stage mask key rs = (s : ℕ) → s < stage → some_agrees rs key (part_through s mask) ≡ true

-- this stage is the first on which no rule agrees with a key
pub record EndsAt (stage : ℕ) (mask key : List ℕ) (rs : List Rule) : Type 0 where
  pub none_agrees : some_agrees rs key (part_through stage mask) ≡ false
  pub before : PassesTo stage mask key rs

-- what a probe says of a key
abbrev pub IsProbe : Probe → List ℕ → List ℕ → List Rule → Type 0
IsProbe (Ended stage) mask key rs = EndsAt stage mask key rs
IsProbe (Best rule priority) mask key rs = option_map rank_of (winner rs key) ≡ Some (record { priority = priority; number = rule })

-- it names no stage but those before that of the network
abbrev pub IsEarly : Probe → Type 0
IsEarly (Ended stage) = stage < network_stage
IsEarly (Best rule priority) = Unit {0}

-- the part of the mask that it tested
abbrev pub tested_part : Probe → List ℕ → List ℕ
tested_part (Ended stage) mask = part_through stage mask
tested_part (Best rule priority) mask = mask

-- the rank of the rule that it found, if it found one
abbrev pub found_rank : Probe → Option Rank
found_rank (Ended stage) = None
found_rank (Best rule priority) = Some (record { priority = priority; number = rule })
