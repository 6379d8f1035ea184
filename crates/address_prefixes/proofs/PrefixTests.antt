-- One test of a prefix, as the code goes.
use Rattle.std.proofs.Common.{◌≡◌, ℕ, Bool, true, false, ◌==◌, ◌∷◌, [], if◌then◌else◌, List, min, sym, ap, ap₂, ◌∙◌}
use Rattle.std.proofs.lemmas.Bool.{cond-true, cond-false}
use Rattle.spec_base.specs.Bits.{leading_bits}
use Rattle.spec_keys.specs.declared.field_id.FieldId.{FieldId}
use Rattle.spec_keys.specs.Fields.{width_of, place_of}
use Rattle.spec_keys.specs.Keys.{value_of, joined, only_at}
use Rattle.spec_tables.specs.Rules.{Rule}
use Rattle.spec_xlate.specs.Lookup.{added, when, leading, prefix_test, prefix_test_of, Prefix, prefix_length, prefixes, some_begins, deciding}

through-test : (f : FieldId) (x n : ℕ) (ps : List Prefix) (further : List (List ℕ)) → (n == 0) ≡ false → some_begins (width_of f) x n ps ≡ true
    → prefix_test_of f x ps n further ≡ leading f n ∷ further
through-test f x n ps further pos some =
    cond-false (n == 0) further (if some_begins (width_of f) x n ps then leading f n ∷ further else leading f (min (deciding (width_of f) x ps) n) ∷ []) pos
    ∙ cond-true (some_begins (width_of f) x n ps) (leading f n ∷ further) (leading f (min (deciding (width_of f) x ps) n) ∷ []) some

ended-test : (f : FieldId) (x n : ℕ) (ps : List Prefix) (further : List (List ℕ)) → (n == 0) ≡ false → some_begins (width_of f) x n ps ≡ false
    → prefix_test_of f x ps n further ≡ leading f (min (deciding (width_of f) x ps) n) ∷ []
ended-test f x n ps further pos none =
    cond-false (n == 0) further (if some_begins (width_of f) x n ps then leading f n ∷ further else leading f (min (deciding (width_of f) x ps) n) ∷ []) pos
    ∙ cond-false (some_begins (width_of f) x n ps) (leading f n ∷ further) (leading f (min (deciding (width_of f) x ps) n) ∷ []) none

module _ (f g : FieldId) (rs : List Rule) (old key mask : List ℕ) (alive : Bool) (n : ℕ) (on : alive ≡ true) (is_field : g ≡ f) (long : n ≡ prefix_length (width_of f) (value_of mask f)) where
  pub test_none : (n == 0) ≡ true → (further : List (List ℕ)) → added old (when alive (prefix_test rs key mask f further)) ≡ added old further
  test_none zero further =
      ap (λ (t : Bool). added old (when t (prefix_test rs key mask f further))) on
      ∙ ap (added old) (cond-true (prefix_length (width_of f) (value_of mask f) == 0) further
      (if some_begins (width_of f) (value_of key f) (prefix_length (width_of f) (value_of mask f)) (prefixes f rs) then leading f (prefix_length (width_of f) (value_of mask f)) ∷ further
      else leading f (min (deciding (width_of f) (value_of key f) (prefixes f rs)) (prefix_length (width_of f) (value_of mask f))) ∷ [])
      (ap (λ (m : ℕ). m == 0) (sym long) ∙ zero))

  pub test_through : (begins : Bool) (w l : ℕ) (new : List ℕ) → (n == 0) ≡ false → begins ≡ some_begins (width_of f) (value_of key f) n (prefixes f rs) → begins ≡ true
      → w ≡ width_of g → l ≡ leading_bits w n → new ≡ joined old (only_at (place_of g) l)
      → (further : List (List ℕ)) → added old (when alive (prefix_test rs key mask f further)) ≡ added new further
  test_through begins w l new pos found so isw isl made further =
      ap (λ (t : Bool). added old (when t (prefix_test rs key mask f further))) on
      ∙ ap (added old) (through-test f (value_of key f) (prefix_length (width_of f) (value_of mask f)) (prefixes f rs) further
      (ap (λ (m : ℕ). m == 0) (sym long) ∙ pos) (ap (λ (m : ℕ). some_begins (width_of f) (value_of key f) m (prefixes f rs)) (sym long) ∙ sym found ∙ so))
      ∙ ap (λ (m : List ℕ). added m further)
      (sym (made ∙ ap₂ (λ (p z : ℕ). joined old (only_at p z)) (ap place_of is_field) (isl ∙ ap₂ leading_bits (isw ∙ ap width_of is_field) long)))

  pub test_ended : (begins : Bool) (w l d m : ℕ) (new : List ℕ) → (n == 0) ≡ false → begins ≡ some_begins (width_of f) (value_of key f) n (prefixes f rs) → begins ≡ false
      → d ≡ deciding (width_of f) (value_of key f) (prefixes f rs) → m ≡ min d n → w ≡ width_of g → l ≡ leading_bits w m → new ≡ joined old (only_at (place_of g) l)
      → (further : List (List ℕ)) → added old (when alive (prefix_test rs key mask f further)) ≡ new
  test_ended begins w l d m new pos found so isd ism isw isl made further =
      ap (λ (t : Bool). added old (when t (prefix_test rs key mask f further))) on
      ∙ ap (added old) (ended-test f (value_of key f) (prefix_length (width_of f) (value_of mask f)) (prefixes f rs) further
      (ap (λ (k : ℕ). k == 0) (sym long) ∙ pos) (ap (λ (k : ℕ). some_begins (width_of f) (value_of key f) k (prefixes f rs)) (sym long) ∙ sym found ∙ so))
      ∙ sym (made ∙ ap₂ (λ (p z : ℕ). joined old (only_at p z)) (ap place_of is_field) (isl ∙ ap₂ leading_bits (isw ∙ ap width_of is_field) (ism ∙ ap₂ min isd long)))
