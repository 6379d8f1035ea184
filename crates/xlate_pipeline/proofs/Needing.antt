-- What a write consults, by whether the packet is what it needs.
use Rattle.std.proofs.Common.{◌≡◌, Bool, true, false, List, ◌++◌, map, ℕ, sym, ap, ◌∙◌}
use Rattle.spec_actions.specs.declared.named_field.Prerequisite.{Prerequisite}
use Rattle.spec_xlate.specs.Needs.{is_met, fields_needed}
use Rattle.spec_xlate.specs.Lookup.{added, when}
use Rattle.spec_xlate.specs.Consulted.{whole, under}
use Rattle.table_laws.proofs.UnionLaws.{added-append}

-- need is what the definition has, asked what the code asks for
pub under-met : (need asked : Prerequisite) (key : List ℕ) (masks : List (List ℕ)) (m m' m'' : List ℕ) → asked ≡ need → true ≡ is_met asked key
    → m' ≡ added m (map whole (fields_needed asked)) → m'' ≡ added m' masks → m'' ≡ added m (under need key masks)
under-met need asked key masks m m' m'' is_need met needed consulted =
    consulted ∙ ap (λ (z : List ℕ). added z masks) needed
    ∙ ap (λ (t : Bool). added (added m (map whole (fields_needed asked))) (when t masks)) met
    ∙ sym (added-append m (map whole (fields_needed asked)) (when (is_met asked key) masks))
    ∙ ap (λ (n : Prerequisite). added m (map whole (fields_needed n) ++ when (is_met n key) masks)) is_need

pub under-unmet : (need asked : Prerequisite) (key : List ℕ) (masks : List (List ℕ)) (m m' : List ℕ) → asked ≡ need → false ≡ is_met asked key
    → m' ≡ added m (map whole (fields_needed asked)) → m' ≡ added m (under need key masks)
under-unmet need asked key masks m m' is_need unmet needed =
    needed
    ∙ ap (λ (t : Bool). added (added m (map whole (fields_needed asked))) (when t masks)) unmet
    ∙ sym (added-append m (map whole (fields_needed asked)) (when (is_met asked key) masks))
    ∙ ap (λ (n : Prerequisite). added m (map whole (fields_needed n) ++ when (is_met n key) masks)) is_need
