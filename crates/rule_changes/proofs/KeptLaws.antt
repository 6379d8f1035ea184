-- Each action leaves all of no bits.
use Rattle.std.proofs.Common.{◌≡◌, ℕ, zero, suc, ◌&&◌, ◌==◌, true, Bool, List, [], ◌∷◌, get_or, replicate, refl, ap₂}
use Rattle.std.specs.List.{list_all}
use Rattle.spec_keys.specs.declared.field_id.FieldId.{FieldId}
use Rattle.spec_keys.specs.Fields.{place_of, field_count}
use Rattle.spec_keys.specs.Keys.{none, number_at, are_zero}
use Rattle.spec_actions.specs.declared.action.OfAction.{OfAction}
use Rattle.rule_changes.specs.Lockstep.{keeps, written_by}

get_or-same : (n q d : ℕ) → get_or (replicate n d) q d ≡ d
get_or-same zero q d = refl
get_or-same (suc n) zero d = refl
get_or-same (suc n) (suc q) d = get_or-same n q d

pub number_at-none : (q : ℕ) → number_at none q ≡ 0
unfolding none
number_at-none q = get_or-same field_count q 0

zero-none : (fs : List FieldId) → are_zero fs none ≡ true
zero-none [] = refl
zero-none (f ∷ fs) = ap₂ (λ (n : ℕ) (t : Bool). (n == 0) && t) (number_at-none (place_of f)) (zero-none fs)

pub all_keep-none : (actions : List OfAction) → list_all (keeps none) actions ≡ true
all_keep-none [] = refl
all_keep-none (x ∷ actions) = ap₂ (λ (s t : Bool). s && t) (zero-none (written_by x)) (all_keep-none actions)
