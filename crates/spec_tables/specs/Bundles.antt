-- Bundles: edits whose effects are seen together, and the versions that they make (OpenFlow 1.4, 6.8; ovs-ofctl(8),
-- `bundle`). Bundles are told by how many edits stand through each of them.
use Rattle.std.specs.Prelude.{◌≡◌, ℕ, zero, suc, ◌+◌, ◌-◌, ◌<◌, List, length, take, drop, slice_index}
use Rattle.std.specs.List.{range_with_len}
use Rattle.spec_tables.specs.Rules.{Rule}
use Rattle.spec_tables.specs.Edits.{Edit, after_edits}

-- how many edits stand in the first v bundles
abbrev pub edits_through : List ℕ → ℕ → ℕ
edits_through bundles zero = 0
edits_through bundles (suc v) = slice_index bundles v

-- the edits of bundle v; bundles are counted from 1
abbrev pub bundle : List Edit → List ℕ → ℕ → List Edit
bundle edits bundles v = drop (edits_through bundles (v - 1)) (take (edits_through bundles v) edits)

-- Each bundle has an edit, and together they have all of so many.
pub record AreBundles (bundles : List ℕ) (edits : ℕ) : Type 0 where
  pub rising : (v : ℕ) → v < length bundles → edits_through bundles v < edits_through bundles (v + 1)
  pub whole : edits_through bundles (length bundles) ≡ edits

-- each of these edits is a bundle by itself
abbrev pub each_alone : List Edit → List ℕ
each_alone edits = range_with_len 1 (length edits)

-- the rules of version v: none at first, and then those of version v - 1 changed by the edits of bundle v, in their order
abbrev pub version : List Edit → List ℕ → ℕ → List Rule
version edits bundles v = after_edits edits (edits_through bundles v)
