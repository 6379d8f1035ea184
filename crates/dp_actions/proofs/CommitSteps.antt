-- Commit, one field after the other.
use Rattle.std.proofs.Common.{◌≡◌, ℕ, ◌+◌, ◌<◌, ◌≤◌, Bool, if◌then◌else◌, List, [], ◌∷◌, ◌++◌, length, get_or, drop, bit_and, bit_xor, sym, ap, ap₂, ◌∙◌, append_assoc, append-nil, eq-eqb, ne_eqb}
use Rattle.std.proofs.lemmas.List.{drop_more, drop_all}
use Rattle.spec_keys.specs.declared.field_id.FieldId.{FieldId}
use Rattle.spec_keys.specs.Keys.{value_of}
use Rattle.spec_actions.specs.declared.action.DpAction.{DpAction}
use Rattle.spec_actions.specs.declared.action.DpAction.TheVariants.{Set}
use Rattle.spec_xlate.specs.Commit.{commit_field, commit_fields}

-- ---- one field

pub field_same : (f : FieldId) (before after was is : ℕ) → before ≡ was → after ≡ is → before ≡ after → commit_field f was is ≡ []
unfolding commit_field
field_same f before after was is read_before read_after same =
    ap (λ (t : Bool). if t then [] else Set f (bit_and is (bit_xor was is)) (bit_xor was is) ∷ []) (eq-eqb was is (sym read_before ∙ same ∙ read_after))

pub field_set : (f : FieldId) (before after was is : ℕ) → before ≡ was → after ≡ is → (before ≡ after → ⊥)
    → Set f (bit_and after (bit_xor before after)) (bit_xor before after) ∷ [] ≡ commit_field f was is
unfolding commit_field
field_set f before after was is read_before read_after other =
    ap₂ (λ (b a : ℕ). Set f (bit_and a (bit_xor b a)) (bit_xor b a) ∷ []) read_before read_after
    ∙ sym (ap (λ (t : Bool). if t then [] else Set f (bit_and is (bit_xor was is)) (bit_xor was is) ∷ []) (ne_eqb was is (λ e. other (read_before ∙ e ∙ sym read_after))))

-- ---- fields in order

-- one field more
pub fields_step : (fields : List FieldId) (i : ℕ) (d : FieldId) (base current : List ℕ) (start old new all : List DpAction) → i < length fields
    → old ++ commit_fields (drop i fields) base current ≡ start ++ all
    → new ≡ old ++ commit_field (get_or fields i d) (value_of base (get_or fields i d)) (value_of current (get_or fields i d))
    → new ++ commit_fields (drop (i + 1) fields) base current ≡ start ++ all
unfolding commit_fields
fields_step fields i d base current start old new all within so_far grown =
    ap (λ xs. xs ++ commit_fields (drop (i + 1) fields) base current) grown
    ∙ append_assoc old (commit_field (get_or fields i d) (value_of base (get_or fields i d)) (value_of current (get_or fields i d))) (commit_fields (drop (i + 1) fields) base current)
    ∙ sym (ap (λ (fs : List FieldId). old ++ commit_fields fs base current) (drop_more fields i d within))
    ∙ so_far

-- no field is left
pub fields_done : (fields : List FieldId) (i : ℕ) (base current : List ℕ) (start old all : List DpAction) → length fields ≤ i
    → old ++ commit_fields (drop i fields) base current ≡ start ++ all → old ≡ start ++ all
unfolding commit_fields
fields_done fields i base current start old all past so_far =
    sym (ap (λ (fs : List FieldId). old ++ commit_fields fs base current) (drop_all i fields past) ∙ append-nil old) ∙ so_far

-- ---- all of it

pub in_three_parts : (out one two three fields tags these after : List DpAction) → one ≡ out ++ fields → two ≡ one ++ tags → tags ≡ these → three ≡ two ++ after
    → three ≡ out ++ (fields ++ (these ++ after))
in_three_parts out one two three fields tags these after first second same third =
    third ∙ ap (λ xs. xs ++ after) (second ∙ ap₂ (λ xs ys. xs ++ ys) first same)
    ∙ append_assoc (out ++ fields) these after ∙ append_assoc out fields (these ++ after)
