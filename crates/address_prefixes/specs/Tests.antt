-- What a test of prefixes does in the course of a lookup, where a mask may have ended before it.
use Rattle.std.specs.Prelude.{◌≡◌, ℕ, Bool, false, List}
use Rattle.spec_tables.specs.Rules.{Rule}
use Rattle.spec_xlate.specs.Lookup.{added, when}
use Rattle.ovs_fields.specs.Packed.{bits}
use Rattle.ovs_fields.specs.declared.mask.Mask.{Mask}
use Rattle.address_prefixes.specs.RuleLists.{NoneMatches}

-- Of all that a mask consults from the test on, what the test consults is added: what is left is what is consulted further,
-- if the mask goes on.
abbrev pub Consults : Bool → Mask → (List (List ℕ) → List (List ℕ)) → Bool → Mask → Type 0
Consults alive old test goes_on new = (further : List (List ℕ)) → added (bits old) (when alive (test further)) ≡ added (bits new) (when goes_on further)

-- a mask ends only where a key matches none of its rules
abbrev pub EndsUnmatched : Bool → List ℕ → List Rule → List ℕ → Type 0
EndsUnmatched goes_on key rs mask = goes_on ≡ false → NoneMatches key mask rs
