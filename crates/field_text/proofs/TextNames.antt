-- A name in the text of a flow means a field that isn't printed alone.
use Rattle.std.proofs.Common.{ℕ, Bool, true, false, cond, List, [], ◌∷◌, Some, IsTrue, refl}
use Rattle.std.specs.Prelude.{IfSome, not}
use Rattle.std.specs.List.{list_all, find}
use Rattle.std.proofs.lemmas.Bool.{and_parts}
use Rattle.spec_actions.specs.Named.{is_printed_alone}
use Rattle.spec_flow_text.specs.Names.{is_called, named_fields, field_named}

-- what holds of all elements holds of the one that is found
found_holds : {A : Type 0} (p q : A → Bool) (xs : List A) → IsTrue (list_all q xs) → IfSome (find p xs) (λ x. IsTrue (q x))
found_holds p q [] all = tt
found_holds {A} p q (x ∷ xs) all =
    let parts = and_parts (q x) (list_all q xs) all in
    elim (p x) as (λ b. IfSome (cond b (Some x) (find p xs)) (λ y. IsTrue (q y))) [ true ↦ parts.0 | false ↦ found_holds p q xs parts.1 ]

pub found_is_in_text : (name : List ℕ) → IfSome (field_named name) (λ f. IsTrue (not (is_printed_alone f)))
unfolding field_named
found_is_in_text name = found_holds (is_called name) (λ f. not (is_printed_alone f)) named_fields refl
