-- What the subtables find.
use Rattle.std.proofs.Common.{◌≡◌, ℕ, zero, suc, ◌+◌, ◌<◌, ◌≤◌, true, false, List, [], ◌∷◌, Option, Some, None, length, refl, sym, ap, subst, ◌∙◌, inl, inr, arith}
use Rattle.std.specs.Prelude.{slice_get, is_some}
use Rattle.std.specs.Option.{option_map, option_and_then}
use Rattle.std.proofs.lemmas.Bool.{cases_Bool, cases_eq, false≢true, cond-true, cond-false}
use Rattle.std.proofs.lemmas.Option.{none-some, same_Some}
use Rattle.std.specs.Map.{lookup}
use Rattle.spec_keys.specs.Keys.{masked, same}
use Rattle.ovs_fields.specs.Equality.{equal_from_same, same_from_equal}
use Rattle.ovs_fields.specs.declared.mask.Mask.{Mask}
use Rattle.ovs_fields.specs.Packed.{numbers, bits}
use Rattle.megaflow_table.specs.declared.entry.Entry.{Entry}
use Rattle.megaflow_table.specs.Entries.{covers, covering, AreDisjoint, AreRising}
use Rattle.megaflow_table.specs.Subtables.{Subtable, Subtables, number_in, subtable_of, number_under}
use Rattle.megaflow_table.specs.Parts.{IsConsistent, masked_key, entries_by}
use Rattle.megaflow_table.proofs.OverlapLaws.{overlap_from_agree}
use Rattle.megaflow_table.proofs.EntryLaws.{find_none, find_one, entry_at, rising_at}

module _ (live : List ℕ) (look : ℕ → Option Entry) (under : List ℕ → List ℕ → Option ℕ) (sound : IsConsistent live look under) where
  -- no two entries cover one key
  pub only_one : (key : List ℕ) (a b : ℕ) (e f : Entry) → look a ≡ Some e → look b ≡ Some f → covers key e ≡ true → covers key f ≡ true → (a ≡ b → ⊥) → ⊥
  only_one key a b e f at_a at_b first second apart =
      false≢true (sym (sound.disjoint a b e f at_a at_b apart) ∙ overlap_from_agree key (numbers e.key) (bits e.mask) (numbers f.key) (bits f.mask) first second)

  pub disjoint_entries : AreDisjoint (entries_by look live)
  disjoint_entries i j a b at_i at_j lt =
      let first = entry_at look live sound.found i a at_i in
      let second = entry_at look live sound.found j b at_j in
      let below = rising_at look live sound.rising i j a.number b.number first.1 second.1 lt in
      sound.disjoint a.number b.number a b first.0 second.0 (λ same_number. omega (arith, below, same_number))

  pub rising_entries : AreRising (entries_by look live)
  rising_entries i j a b at_i at_j lt =
      let first = entry_at look live sound.found i a at_i in
      let second = entry_at look live sound.found j b at_j in
      rising_at look live sound.rising i j a.number b.number first.1 second.1 lt

  -- the entry whose bits are found covers the key, and no other does
  pub covering_found : (key mask : List ℕ) (n : ℕ) → under mask (masked key mask) ≡ Some n → option_map (λ (e : Entry). e.number) (covering key (entries_by look live)) ≡ Some n
  covering_found key mask n is =
      let it = sound.named mask (masked key mask) n is in
      let its_bits : masked key (bits it.0.mask) ≡ masked_key it.0 = ap (masked key) it.2 ∙ it.3 in
      let pass : covers key it.0 ≡ true = same_from_equal (masked key (bits it.0.mask)) (masked_key it.0) its_bits in
      let there = sound.within n it.0 it.1 in
      let number = sound.found n there in
      ap (option_map (λ (e : Entry). e.number)) (find_one look (covers key) live sound.found n it.0 it.1 there pass (λ m f at holds. by_numbers m n f it.0 at it.1 holds pass))
      ∙ ap (λ (e : Entry). Some e.number) (same_Some it.0 number.0 (sym it.1 ∙ number.1))
      ∙ ap (λ (m : ℕ). Some m) number.2
    where
      by_numbers : (m n : ℕ) (f e : Entry) → look m ≡ Some f → look n ≡ Some e → covers key f ≡ true → covers key e ≡ true → m ≡ n
      by_numbers m n f e at_m at_n first second = elim (cases_eq m n) [ inl equal ↦ equal | inr apart ↦ absurd (only_one key m n f e at_m at_n first second apart) ]

  pub covering_nothing : (key : List ℕ) → ((mask : List ℕ) → under mask (masked key mask) ≡ None) → covering key (entries_by look live) ≡ None
  covering_nothing key nothing = find_none look (covers key) live sound.found misses
    where
      misses : (n : ℕ) (e : Entry) → look n ≡ Some e → covers key e ≡ false
      misses n e is =
          elim (cases_Bool (covers key e)) [
            | inl holds ↦
                absurd (none-some n (sym (nothing (bits e.mask)) ∙ ap (under (bits e.mask)) (equal_from_same (masked key (bits e.mask)) (masked_key e) holds) ∙ sound.indexed n e is))
            | inr missed ↦ missed
          ]

-- no subtable that was passed has the key's bits
abbrev pub IsPassed : List ℕ → Mask × Subtable → Type 0
IsPassed key t = number_in t.1 (masked key (bits t.0)) ≡ None

pub nothing_under : (key mask : List ℕ) (es : List (Mask × Subtable)) → ((j : ℕ) (t : Mask × Subtable) → slice_get es j ≡ Some t → IsPassed key t)
    → option_and_then (λ (subtable : Subtable). number_in subtable (masked key mask)) (lookup (λ (m : Mask). same mask (bits m)) es) ≡ None
nothing_under key mask [] passed = refl
nothing_under key mask (t ∷ rest) passed =
    elim (cases_Bool (same mask (bits t.0))) [
      | inl holds ↦
          ap (option_and_then (λ (subtable : Subtable). number_in subtable (masked key mask))) (cond-true (same mask (bits t.0)) (Some t.1) (lookup (λ (m : Mask). same mask (bits m)) rest) holds)
          ∙ ap (λ (m : List ℕ). number_in t.1 (masked key m)) (equal_from_same mask (bits t.0) holds)
          ∙ passed 0 t refl
      | inr missed ↦
          ap (option_and_then (λ (subtable : Subtable). number_in subtable (masked key mask))) (cond-false (same mask (bits t.0)) (Some t.1) (lookup (λ (m : Mask). same mask (bits m)) rest) missed)
          ∙ nothing_under key mask rest (λ j u at. passed (suc j) u at)
    ]

pub none_past : (es : List (Mask × Subtable)) (i j : ℕ) (t : Mask × Subtable) → length es ≤ i → slice_get es j ≡ Some t → j < i
none_past [] i j t le at = absurd (none-some t at)
none_past (e ∷ es) zero j t le at = absurd (omega arith)
none_past (e ∷ es) (suc i) zero t le at = omega arith
none_past (e ∷ es) (suc i) (suc j) t le at = let lt = none_past es i j t (omega arith) at in omega (arith, lt)

-- what holds of the subtables before a place, and of the one there
pub one_more : (P : Mask × Subtable → Type 0) (es : List (Mask × Subtable)) (i : ℕ) → ((u : Mask × Subtable) → slice_get es i ≡ Some u → P u)
    → ((j : ℕ) (u : Mask × Subtable) → j < i → slice_get es j ≡ Some u → P u) → (j : ℕ) (u : Mask × Subtable) → j < i + 1 → slice_get es j ≡ Some u → P u
one_more P es i here before j u lt at =
    elim (cases_eq j i) [
      | inl equal ↦ here u (ap (slice_get es) (sym equal) ∙ at)
      | inr other ↦ before j u (omega arith) at
    ]

pub passed_here : (key : List ℕ) (mask : Mask) (subtable : Subtable) (u : Mask × Subtable) (found : Option ℕ) → Some (mask, subtable) ≡ Some u
    → found ≡ number_in subtable (masked key (bits mask)) → is_some found ≡ false → IsPassed key u
passed_here key mask subtable u found same_pair is none =
    subst (IsPassed key) (same_Some (mask, subtable) u same_pair) (sym is ∙ by found none)
  where
    by : (o : Option ℕ) → is_some o ≡ false → o ≡ None
    by None h = refl
    by (Some n) h = absurd (false≢true (sym h))

module _ (live : List ℕ) (look : ℕ → Option Entry) (subtables : Subtables) (sound : IsConsistent live look (number_under subtables)) where
  pub found_in_subtable : (key : List ℕ) (mask : Mask) (subtable : Subtable) → subtable_of subtables (bits mask) ≡ Some subtable → (found : Option ℕ) → found ≡ number_in subtable (masked key (bits mask)) → is_some found ≡ true
      → found ≡ option_map (λ (e : Entry). e.number) (covering key (entries_by look live))
  found_in_subtable key mask subtable at None is some = absurd (false≢true some)
  found_in_subtable key mask subtable at (Some n) is some =
      sym (covering_found live look (number_under subtables) sound key (bits mask) n (ap (option_and_then (λ (i : Subtable). number_in i (masked key (bits mask)))) at ∙ sym is))

  pub nothing_passed : (key : List ℕ) (i : ℕ) → length subtables.entries ≤ i → ((j : ℕ) (t : Mask × Subtable) → j < i → slice_get subtables.entries j ≡ Some t → IsPassed key t)
      → option_map (λ (e : Entry). e.number) (covering key (entries_by look live)) ≡ None
  nothing_passed key i le before =
      ap (option_map (λ (e : Entry). e.number))
      (covering_nothing live look (number_under subtables) sound key (λ mask. nothing_under key mask subtables.entries (λ j t at. before j t (none_past subtables.entries i j t le at) at)))
