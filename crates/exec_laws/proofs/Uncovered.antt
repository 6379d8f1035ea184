-- Writes to the addresses leave all bytes after them, and so the tags.
use Rattle.std.proofs.Common.{◌≡◌, ℕ, ◌≤◌, ◌==◌, ◌&&◌, Bool, true, false, if◌then◌else◌, List, [], ◌∷◌, length, slice_index, bit_and, bit_xor, inr, refl, ap₂, ◌∙◌, arith}
use Rattle.spec_keys.specs.declared.field_id.FieldId.TheVariants.{DlSrc, DlDst}
use Rattle.spec_frames.specs.Ethernet.{header_size, type_at}
use Rattle.spec_actions.specs.declared.action.DpAction.TheVariants.{Set}
use Rattle.spec_xlate.specs.Commit.{commit_field}
use Rattle.exec_laws.specs.Sends.{after_actions}
use Rattle.exec_laws.specs.Become.{has_third_tag}
use Rattle.exec_laws.proofs.Within.{set-length}
use Rattle.exec_laws.proofs.Addresses.{count-same, tag_at-same}
use Rattle.exec_laws.proofs.Untouched.{set-untouched}

-- two frames with the same bytes after the addresses
abbrev pub SameAfter : List ℕ → List ℕ → Type 0
SameAfter a b = (length b ≡ length a) × ((i : ℕ) → type_at ≤ i → slice_index b i ≡ slice_index a i)

pub same-join : (a b c : List ℕ) → SameAfter a b → SameAfter b c → SameAfter a c
same-join a b c x y = (y.0 ∙ x.0, λ i l. y.1 i l ∙ x.1 i l)

pub source-same_after : (before after : ℕ) (g : List ℕ) → header_size ≤ length g → SameAfter g (after_actions (commit_field DlSrc before after) g)
unfolding commit_field
source-same_after before after g whole = by (before == after)
  where
    by : (t : Bool) → SameAfter g (after_actions (if t then [] else Set DlSrc (bit_and after (bit_xor before after)) (bit_xor before after) ∷ []) g)
    by true = (refl, λ i l. refl)
    by false = (set-length DlSrc _ _ g, λ i l. set-untouched DlSrc _ _ g i whole (inr l) tt)

pub destination-same_after : (before after : ℕ) (g : List ℕ) → header_size ≤ length g → SameAfter g (after_actions (commit_field DlDst before after) g)
unfolding commit_field
destination-same_after before after g whole = by (before == after)
  where
    by : (t : Bool) → SameAfter g (after_actions (if t then [] else Set DlDst (bit_and after (bit_xor before after)) (bit_xor before after) ∷ []) g)
    by true = (refl, λ i l. refl)
    by false = (set-length DlDst _ _ g, λ i l. set-untouched DlDst _ _ g i whole (inr (omega arith)) tt)

-- so have they a third tag
pub third-same : (a b : List ℕ) → header_size ≤ length a → SameAfter a b → has_third_tag b ≡ has_third_tag a
third-same a b whole same =
    ap₂ (λ (z : ℕ) (t : Bool). (z == 2) && t) (count-same a b same.0 same.1 whole) (tag_at-same a b same.0 same.1 whole 20 (omega arith))
