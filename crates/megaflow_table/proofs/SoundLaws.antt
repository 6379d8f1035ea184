-- What is sound stays so.
use Rattle.std.proofs.Common.{◌≡◌, ℕ, ◌<◌, true, false, cond, ◌==◌, ◌&&◌, List, [], ◌∷◌, ◌++◌, Option, Some, None, refl, sym, ap, ap₂, subst, ◌∙◌, ◌⊎◌, inl, inr, arith}
use Rattle.std.specs.Prelude.{filter, not}
use Rattle.std.specs.List.{cons_option}
use Rattle.std.proofs.lemmas.Bool.{cases_Bool, cases_eq, and_parts, and_from, cond-true, cond-false, eq-eqb, eqb-true, ne_eqb, false≢true}
use Rattle.std.proofs.lemmas.Option.{none-some, same_Some}
use Rattle.std.proofs.lemmas.List.Elements.{filter_map-append}
use Rattle.spec_keys.specs.Keys.{overlap, masked, same}
use Rattle.ovs_fields.specs.Equality.{equal_from_same, same_from_equal}
use Rattle.ovs_fields.specs.Packed.{numbers, bits}
use Rattle.megaflow_table.specs.declared.entry.Entry.{Entry}
use Rattle.megaflow_table.specs.Entries.{overlaps, without}
use Rattle.megaflow_table.specs.Live.{IsIn, IsRising}
use Rattle.megaflow_table.specs.Parts.{IsConsistent, masked_key, entries_by}
use Rattle.megaflow_table.proofs.OverlapLaws.{overlap_from_agree, overlap_turned}
use Rattle.megaflow_table.proofs.RisingLaws.{in_filter, filter_in, rising_filter}
use Rattle.megaflow_table.proofs.EntryLaws.{IsHeld, IsSameName, behind, step, same-entries}

abbrev pub Forth : (ℕ → Option Entry) → (ℕ → Option Entry) → Type 0
Forth look look' = (n : ℕ) (e : Entry) → look n ≡ Some e → (f : Entry) × (look' n ≡ Some f) × IsSameName e f

abbrev pub Back : (ℕ → Option Entry) → (ℕ → Option Entry) → Type 0
Back look look' = (n : ℕ) (f : Entry) → look' n ≡ Some f → (e : Entry) × (look n ≡ Some e) × IsSameName e f

same_bits : (e f : Entry) → IsSameName e f → masked_key f ≡ masked_key e
same_bits e f s = λ i. masked (numbers (s.key i)) (bits (s.mask i))

pub renamed_sound : (live : List ℕ) (look look' : ℕ → Option Entry) (under : List ℕ → List ℕ → Option ℕ) → IsConsistent live look under → Forth look look' → Back look look' → IsConsistent live look' under
renamed_sound live look look' under sound forth back = record {
  rising = sound.rising;
  found = λ n is_in. let t = sound.found n is_in in let f = forth n t.0 t.1 in (f.0, f.1, f.2.number ∙ t.2);
  within = λ n f is. let b = back n f is in sound.within n b.0 b.1;
  disjoint = λ a b e f at_a at_b apart.
      let x = back a e at_a in
      let y = back b f at_b in
      (λ i. overlap (numbers (x.2.key i)) (bits (x.2.mask i)) (numbers (y.2.key i)) (bits (y.2.mask i))) ∙ sound.disjoint a b x.0 y.0 x.1 y.1 apart;
  named = λ mask key n is.
      let t = sound.named mask key n is in
      let f = forth n t.0 t.1 in
      (f.0, f.1, ap (λ m. bits m) f.2.mask ∙ t.2, t.3 ∙ sym (same_bits t.0 f.0 f.2));
  indexed = λ n f is.
      let b = back n f is in
      ap₂ under (ap (λ m. bits m) b.2.mask) (same_bits b.0 f b.2) ∙ sound.indexed n b.0 b.1;
}

module _ (look look' : ℕ → Option Entry) (number : ℕ) (e f : Entry) (at : look number ≡ Some e) (names : IsSameName e f) (put : (n : ℕ) → look' n ≡ cond (number == n) (Some f) (look n)) where
  pub change_forth : Forth look look'
  change_forth n g is =
      elim (cases_Bool (number == n)) [
        | inl holds ↦
            let same_entry : e ≡ g = same_Some e g (sym at ∙ ap look (eqb-true number n holds) ∙ is) in
            (f, put n ∙ cond-true (number == n) (Some f) (look n) holds, subst (λ (h : Entry). IsSameName h f) same_entry names)
        | inr fails ↦ (g, put n ∙ cond-false (number == n) (Some f) (look n) fails ∙ is, record { number = refl; key = refl; mask = refl })
      ]

  pub change_back : Back look look'
  change_back n g is =
      elim (cases_Bool (number == n)) [
        | inl holds ↦
            let same_entry : f ≡ g = same_Some f g (sym (cond-true (number == n) (Some f) (look n) holds) ∙ sym (put n) ∙ is) in
            (e, ap look (sym (eqb-true number n holds)) ∙ at, subst (λ (h : Entry). IsSameName e h) same_entry names)
        | inr fails ↦ (g, sym (cond-false (number == n) (Some f) (look n) fails) ∙ sym (put n) ∙ is, record { number = refl; key = refl; mask = refl })
      ]

-- ---- one more

pub in_append : (n m : ℕ) (xs : List ℕ) → IsIn n (xs ++ m ∷ []) → IsIn n xs ⊎ (n ≡ m)
in_append n m [] (inl equal) = inr equal
in_append n m [] (inr none) = absurd none
in_append n m (x ∷ xs) (inl equal) = inl (inl equal)
in_append n m (x ∷ xs) (inr later) = elim (in_append n m xs later) [ inl is_in ↦ inl (inr is_in) | inr equal ↦ inr equal ]

pub append_in : (n m : ℕ) (xs : List ℕ) → IsIn n xs → IsIn n (xs ++ m ∷ [])
append_in n m [] none = absurd none
append_in n m (x ∷ xs) (inl equal) = inl equal
append_in n m (x ∷ xs) (inr later) = inr (append_in n m xs later)

pub last_in : (m : ℕ) (xs : List ℕ) → IsIn m (xs ++ m ∷ [])
last_in m [] = inl refl
last_in m (x ∷ xs) = inr (last_in m xs)

rising_append : (m : ℕ) (xs : List ℕ) → IsRising xs → ((n : ℕ) → IsIn n xs → n < m) → IsRising (xs ++ m ∷ [])
rising_append m [] rising above = (λ n none. absurd none, tt)
rising_append m (x ∷ xs) rising above = (
  λ n is_in. elim (in_append n m xs is_in) [ inl before ↦ rising.0 n before | inr equal ↦ let lt : x < m = above x (inl refl) in omega (arith, lt, equal) ],
  rising_append m xs rising.1 (λ n is_in. above n (inr is_in)),
)

module _ (live : List ℕ) (look : ℕ → Option Entry) (under : List ℕ → List ℕ → Option ℕ) (sound : IsConsistent live look under)
    (e : Entry) (above : (n : ℕ) → IsIn n live → n < e.number) (free : (n : ℕ) (f : Entry) → look n ≡ Some f → overlaps (numbers e.key) (bits e.mask) f ≡ false)
    (look' : ℕ → Option Entry) (put : (n : ℕ) → look' n ≡ cond (e.number == n) (Some e) (look n))
    (under' : List ℕ → List ℕ → Option ℕ) (indexes : (m k : List ℕ) → under' m k ≡ cond (same m (bits e.mask) && same k (masked_key e)) (Some e.number) (under m k)) where
  new_at : (n : ℕ) → n ≡ e.number → look' n ≡ Some e
  new_at n equal = put n ∙ cond-true (e.number == n) (Some e) (look n) (eq-eqb e.number n (sym equal))

  old_at : (n : ℕ) → (n ≡ e.number → ⊥) → look' n ≡ look n
  old_at n other = put n ∙ cond-false (e.number == n) (Some e) (look n) (ne_eqb e.number n (λ equal. other (sym equal)))

  older : (n : ℕ) → IsIn n live → n ≡ e.number → ⊥
  older n is_in equal = let lt : n < e.number = above n is_in in omega (arith, lt, equal)

  old_look : (n : ℕ) (f : Entry) → look n ≡ Some f → look' n ≡ Some f
  old_look n f is = old_at n (older n (sound.within n f is)) ∙ is

  pub added_entries : entries_by look' (live ++ e.number ∷ []) ≡ entries_by look live ++ e ∷ []
  added_entries =
      filter_map-append look' live (e.number ∷ [])
      ∙ ap₂ (λ (xs ys : List Entry). xs ++ ys) (same-entries look look' live (λ n is_in. old_at n (older n is_in))) (ap (λ (o : Option Entry). cons_option o []) (new_at e.number refl))

  not_there : (n : ℕ) (f : Entry) → look n ≡ Some f → (same (bits f.mask) (bits e.mask) && same (masked_key f) (masked_key e)) ≡ false
  not_there n f is =
      elim (cases_Bool (same (bits f.mask) (bits e.mask) && same (masked_key f) (masked_key e))) [
        | inl holds ↦
            let parts = and_parts (same (bits f.mask) (bits e.mask)) (same (masked_key f) (masked_key e)) holds in
            let masks = equal_from_same (bits f.mask) (bits e.mask) parts.0 in
            let keys = equal_from_same (masked_key f) (masked_key e) parts.1 in
            let second : masked (numbers e.key) (bits f.mask) ≡ masked_key f = ap (masked (numbers e.key)) masks ∙ sym keys in
            absurd (false≢true (sym (free n f is) ∙ overlap_from_agree (numbers e.key) (numbers e.key) (bits e.mask) (numbers f.key) (bits f.mask) (same_from_equal (masked_key e) (masked_key e) refl) (same_from_equal (masked (numbers e.key) (bits f.mask)) (masked_key f) second)))
        | inr fails ↦ fails
      ]

  pub added_sound : IsConsistent (live ++ e.number ∷ []) look' under'
  added_sound = record {
    rising = rising_append e.number live sound.rising above;
    found = λ n is_in. elim (in_append n e.number live is_in) [
      | inl before ↦ let t = sound.found n before in (t.0, old_look n t.0 t.1, t.2)
      | inr equal ↦ (e, new_at n equal, sym equal)
    ];
    within = within_new;
    disjoint = disjoint_new;
    named = named_new;
    indexed = indexed_new;
  }
    where
      origin : (n : ℕ) (f : Entry) → look' n ≡ Some f → ((n ≡ e.number) × (f ≡ e)) ⊎ (look n ≡ Some f)
      origin n f is =
          elim (cases_eq n e.number) [
            | inl equal ↦ inl (equal, same_Some f e (sym is ∙ new_at n equal))
            | inr other ↦ inr (sym (old_at n other) ∙ is)
          ]

      within_new : (n : ℕ) (f : Entry) → look' n ≡ Some f → IsIn n (live ++ e.number ∷ [])
      within_new n f is =
          elim (origin n f is) [
            | inl new ↦ subst (λ (m : ℕ). IsIn m (live ++ e.number ∷ [])) (sym new.0) (last_in e.number live)
            | inr old ↦ append_in n e.number live (sound.within n f old)
          ]

      disjoint_new : (a b : ℕ) (f g : Entry) → look' a ≡ Some f → look' b ≡ Some g → (a ≡ b → ⊥) → overlaps (numbers f.key) (bits f.mask) g ≡ false
      disjoint_new a b f g at_a at_b apart =
          elim (origin a f at_a) [
            | inl new_a ↦ elim (origin b g at_b) [
              | inl new_b ↦ absurd (apart (new_a.0 ∙ sym new_b.0))
              | inr old_b ↦ ap (λ (h : Entry). overlaps (numbers h.key) (bits h.mask) g) new_a.1 ∙ free b g old_b
            ]
            | inr old_a ↦ elim (origin b g at_b) [
              | inl new_b ↦
                  ap (λ (h : Entry). overlaps (numbers f.key) (bits f.mask) h) new_b.1
                  ∙ overlap_turned (numbers f.key) (bits f.mask) (numbers e.key) (bits e.mask) (free a f old_a)
              | inr old_b ↦ sound.disjoint a b f g old_a old_b apart
            ]
          ]

      named_new : (mask key : List ℕ) (n : ℕ) → under' mask key ≡ Some n → (f : Entry) × (look' n ≡ Some f) × (bits f.mask ≡ mask) × (key ≡ masked_key f)
      named_new mask key n is =
          elim (cases_Bool (same mask (bits e.mask) && same key (masked_key e))) [
            | inl holds ↦
                let parts = and_parts (same mask (bits e.mask)) (same key (masked_key e)) holds in
                let number : e.number ≡ n = same_Some e.number n (sym (cond-true (same mask (bits e.mask) && same key (masked_key e)) (Some e.number) (under mask key) holds) ∙ sym (indexes mask key) ∙ is) in
                (e, new_at n (sym number), sym (equal_from_same mask (bits e.mask) parts.0), equal_from_same key (masked_key e) parts.1)
            | inr fails ↦
                let t = sound.named mask key n (sym (cond-false (same mask (bits e.mask) && same key (masked_key e)) (Some e.number) (under mask key) fails) ∙ sym (indexes mask key) ∙ is) in
                (t.0, old_look n t.0 t.1, t.2, t.3)
          ]

      indexed_new : (n : ℕ) (f : Entry) → look' n ≡ Some f → under' (bits f.mask) (masked_key f) ≡ Some n
      indexed_new n f is =
          elim (origin n f is) [
            | inl new ↦
                ap (λ (h : Entry). under' (bits h.mask) (masked_key h)) new.1
                ∙ indexes (bits e.mask) (masked_key e)
                ∙ cond-true (same (bits e.mask) (bits e.mask) && same (masked_key e) (masked_key e)) (Some e.number) (under (bits e.mask) (masked_key e))
                (and_from (same (bits e.mask) (bits e.mask)) (same (masked_key e) (masked_key e)) (same_from_equal (bits e.mask) (bits e.mask) refl) (same_from_equal (masked_key e) (masked_key e) refl))
                ∙ ap (λ (m : ℕ). Some m) (sym new.0)
            | inr old ↦
                indexes (bits f.mask) (masked_key f)
                ∙ cond-false (same (bits f.mask) (bits e.mask) && same (masked_key f) (masked_key e)) (Some e.number) (under (bits f.mask) (masked_key f)) (not_there n f old)
                ∙ sound.indexed n f old
          ]

-- ---- one less

-- a number that is not left out is another
other_number : (n number : ℕ) → not (n == number) ≡ true → n ≡ number → ⊥
other_number n number kept equal = false≢true (sym (ap not (eq-eqb n number equal)) ∙ kept)

module _ (look look' : ℕ → Option Entry) (number : ℕ) (gone : (n : ℕ) → look' n ≡ cond (number == n) None (look n)) where
  stays_at : (n : ℕ) → (n ≡ number → ⊥) → look' n ≡ look n
  stays_at n other = gone n ∙ cond-false (number == n) None (look n) (ne_eqb number n (λ equal. other (sym equal)))

  none_at : (n : ℕ) → n ≡ number → look' n ≡ None
  none_at n equal = gone n ∙ cond-true (number == n) None (look n) (eq-eqb number n (sym equal))

  pub removed_entries : (live : List ℕ) → IsHeld look live → entries_by look' (filter (λ m. not (m == number)) live) ≡ without number (entries_by look live)
  removed_entries [] held = refl
  removed_entries (x ∷ xs) held =
      let there = held x (inl refl) in
      let rest = removed_entries xs (behind look x xs held) in
      elim (cases_Bool (x == number)) [
        | inl holds ↦
            ap (entries_by look') (cond-false (not (x == number)) (x ∷ filter (λ m. not (m == number)) xs) (filter (λ m. not (m == number)) xs) (ap not holds))
            ∙ rest
            ∙ sym (cond-false (not (there.0.number == number)) (there.0 ∷ without number (entries_by look xs)) (without number (entries_by look xs)) (ap (λ (n : ℕ). not (n == number)) there.2 ∙ ap not holds))
            ∙ ap (without number) (sym (step look x xs there.0 there.1))
        | inr fails ↦
            ap (entries_by look') (cond-true (not (x == number)) (x ∷ filter (λ m. not (m == number)) xs) (filter (λ m. not (m == number)) xs) (ap not fails))
            ∙ ap₂ (λ (o : Option Entry) (es : List Entry). cons_option o es) (stays_at x (λ equal. false≢true (sym fails ∙ eq-eqb x number equal)) ∙ there.1) rest
            ∙ sym (cond-true (not (there.0.number == number)) (there.0 ∷ without number (entries_by look xs)) (without number (entries_by look xs)) (ap (λ (n : ℕ). not (n == number)) there.2 ∙ ap not fails))
            ∙ ap (without number) (sym (step look x xs there.0 there.1))
      ]

  module _ (live : List ℕ) (under under' : List ℕ → List ℕ → Option ℕ) (sound : IsConsistent live look under) (e : Entry) (at : look number ≡ Some e)
      (indexes : (m k : List ℕ) → under' m k ≡ cond (same m (bits e.mask) && same k (masked_key e)) None (under m k)) where
    pub removed_sound : IsConsistent (filter (λ m. not (m == number)) live) look' under'
    removed_sound = record {
      rising = rising_filter (λ m. not (m == number)) live sound.rising;
      found = λ n is_in.
          let kept = in_filter (λ m. not (m == number)) n live is_in in
          let t = sound.found n kept.0 in
          (t.0, stays_at n (other_number n number kept.1) ∙ t.1, t.2);
      within = λ n f is. let o = origin n f is in filter_in (λ m. not (m == number)) n live (sound.within n f o.1) (ap not (ne_eqb n number o.0));
      disjoint = λ a b f g at_a at_b apart. sound.disjoint a b f g ((origin a f at_a).1) ((origin b g at_b).1) apart;
      named = named_still;
      indexed = indexed_still;
    }
      where
        origin : (n : ℕ) (f : Entry) → look' n ≡ Some f → (n ≡ number → ⊥) × (look n ≡ Some f)
        origin n f is =
            elim (cases_eq n number) [
              | inl equal ↦ absurd (none-some f (sym (none_at n equal) ∙ is))
              | inr other ↦ (other, sym (stays_at n other) ∙ is)
            ]

        itself : (n : ℕ) (f : Entry) → n ≡ number → look n ≡ Some f → f ≡ e
        itself n f equal is = same_Some f e (sym is ∙ ap look equal ∙ at)

        named_still : (mask key : List ℕ) (n : ℕ) → under' mask key ≡ Some n → (f : Entry) × (look' n ≡ Some f) × (bits f.mask ≡ mask) × (key ≡ masked_key f)
        named_still mask key n is =
            elim (cases_Bool (same mask (bits e.mask) && same key (masked_key e))) [
              | inl holds ↦ absurd (none-some n (sym (cond-true (same mask (bits e.mask) && same key (masked_key e)) None (under mask key) holds) ∙ sym (indexes mask key) ∙ is))
              | inr fails ↦
                  let t = sound.named mask key n (sym (cond-false (same mask (bits e.mask) && same key (masked_key e)) None (under mask key) fails) ∙ sym (indexes mask key) ∙ is) in
                  (t.0, stays_at n (other mask key n t.0 fails t.1 t.2 t.3) ∙ t.1, t.2, t.3)
            ]
          where
            other : (mask key : List ℕ) (n : ℕ) (f : Entry) → (same mask (bits e.mask) && same key (masked_key e)) ≡ false → look n ≡ Some f → bits f.mask ≡ mask → key ≡ masked_key f → n ≡ number → ⊥
            other mask key n f fails is masks keys equal =
                let same_entry = itself n f equal is in
                false≢true (sym fails ∙ and_from (same mask (bits e.mask)) (same key (masked_key e)) (same_from_equal mask (bits e.mask) (sym masks ∙ ap (λ (g : Entry). bits g.mask) same_entry)) (same_from_equal key (masked_key e) (keys ∙ ap masked_key same_entry)))

        indexed_still : (n : ℕ) (f : Entry) → look' n ≡ Some f → under' (bits f.mask) (masked_key f) ≡ Some n
        indexed_still n f is =
            let o = origin n f is in
            indexes (bits f.mask) (masked_key f)
            ∙ cond-false (same (bits f.mask) (bits e.mask) && same (masked_key f) (masked_key e)) None (under (bits f.mask) (masked_key f)) (apart n f o.0 o.1)
            ∙ sound.indexed n f o.1
          where
            apart : (n : ℕ) (f : Entry) → (n ≡ number → ⊥) → look n ≡ Some f → (same (bits f.mask) (bits e.mask) && same (masked_key f) (masked_key e)) ≡ false
            apart n f other is =
                elim (cases_Bool (same (bits f.mask) (bits e.mask) && same (masked_key f) (masked_key e))) [
                  | inl holds ↦
                      let parts = and_parts (same (bits f.mask) (bits e.mask)) (same (masked_key f) (masked_key e)) holds in
                      absurd (other (same_Some n number (sym (sound.indexed n f is) ∙ ap₂ under (equal_from_same (bits f.mask) (bits e.mask) parts.0) (equal_from_same (masked_key f) (masked_key e) parts.1) ∙ sound.indexed number e at)))
                  | inr fails ↦ fails
                ]
