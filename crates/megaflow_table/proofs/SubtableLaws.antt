-- An update of a map whose keys are equal where their lists are, read at any list.
use Rattle.std.proofs.Common.{◌≡◌, ℕ, ◌≤◌, Bool, true, cond, ◌&&◌, List, [], Option, Some, None, refl, sym, ap, subst, ◌∙◌, inl, inr, arith}
use Rattle.std.specs.Prelude.{is_some}
use Rattle.std.specs.Option.{option_and_then, option_map}
use Rattle.std.specs.Map.{KeepsOthers, lookup}
use Rattle.std.specs.HashMap.{UpdatesBy, WritesThrough}
use Rattle.std.proofs.lemmas.Bool.{cases_Bool, and_parts, cond-true, cond-false}
use Rattle.std.proofs.lemmas.Option.{none-some, same_Some}
use Rattle.indexmap.specs.IndexMap.{IndexMap, get_by, spare}
use Rattle.masked_map.specs.Maps.{mask_of, entries_of, room_of}
use Rattle.spec_keys.specs.Keys.{same}
use Rattle.ovs_fields.specs.Equality.{equal_from_same, same_from_equal}
use Rattle.ovs_fields.specs.declared.mask.Mask.{Mask}
use Rattle.ovs_fields.specs.Packed.{bits}
use Rattle.megaflow_table.specs.Subtables.{Subtable, Subtables, subtable_of, number_in, number_under, ChangesOnly, SubtableChangesOnly, AreUnderMasks, KeepsRoom, KeepsNumbers, IsEmptyUnder, IsFresh, IsFreshUnder}
use Rattle.megaflow_table.specs.declared.subtables.Fresh.{Fresh}

-- where a test of keys is by a list, what is found by any list follows
pub updated_at : {K X S : Type 0} (list : K → List ℕ) (old new : IndexMap K X S) (key : List ℕ) (w : Option X)
    → UpdatesBy (λ a b. same (list a) (list b)) (λ r. same key (list r)) old new w
    → (m : List ℕ) → get_by (λ (k : K). same m (list k)) new ≡ cond (same m key) w (get_by (λ (k : K). same m (list k)) old)
unfolding KeepsOthers
updated_at {K} {X} {S} list old new key w updates m =
    elim (cases_Bool (same m key)) [
      | inl holds ↦
          ap (λ (l : List ℕ). get_by (λ (k : K). same l (list k)) new) (equal_from_same m key holds)
          ∙ updates.1
          ∙ sym (cond-true (same m key) w (get_by (λ (k : K). same m (list k)) old) holds)
      | inr fails ↦
          updates.3 (λ k. same m (list k))
          (λ x y first. ap (λ (l : List ℕ). same l (list y)) (equal_from_same m (list x) first))
          (λ k first. ap (same m) (sym (equal_from_same key (list k) first)) ∙ fails)
          ∙ sym (cond-false (same m key) w (get_by (λ (k : K). same m (list k)) old) fails)
    ]

-- ---- one subtable of the subtables is put in place of another

module _ (old new : Subtables) (mask : List ℕ) (before after : Subtable) (at : subtable_of old mask ≡ Some before) (put : (m : List ℕ) → subtable_of new m ≡ cond (same m mask) (Some after) (subtable_of old m)) where
  pub put_changes : (key : List ℕ) (number : Option ℕ) → SubtableChangesOnly before after key number → ChangesOnly old new mask key number
  put_changes key number changes m k =
      ap (option_and_then (λ (subtable : Subtable). number_in subtable k)) (put m)
      ∙ elim (cases_Bool (same m mask)) [
        | inl holds ↦
            ap (option_and_then (λ (subtable : Subtable). number_in subtable k)) (cond-true (same m mask) (Some after) (subtable_of old m) holds)
            ∙ changes k
            ∙ ap (cond (same k key) number) (sym (ap (option_and_then (λ (subtable : Subtable). number_in subtable k)) (ap (subtable_of old) (equal_from_same m mask holds) ∙ at)))
            ∙ sym (ap (λ (b : Bool). cond (b && same k key) number (number_under old m k)) holds)
        | inr fails ↦
            ap (option_and_then (λ (subtable : Subtable). number_in subtable k)) (cond-false (same m mask) (Some after) (subtable_of old m) fails)
            ∙ sym (ap (λ (b : Bool). cond (b && same k key) number (number_under old m k)) fails)
      ]

  pub put_room : spare old ≤ spare new → room_of before.numbers ≤ room_of after.numbers → mask_of after.numbers ≡ mask_of before.numbers → KeepsRoom old new
  put_room subtables le same_mask = record { subtables = subtables; within = within }
    where
      within : (m : List ℕ) (subtable : Subtable) → subtable_of new m ≡ Some subtable → (was : Subtable) × (subtable_of old m ≡ Some was) × (room_of was.numbers ≤ room_of subtable.numbers) × (mask_of subtable.numbers ≡ mask_of was.numbers)
      within m subtable is =
          elim (cases_Bool (same m mask)) [
            | inl holds ↦
                let equal : after ≡ subtable = same_Some after subtable (sym (cond-true (same m mask) (Some after) (subtable_of old m) holds) ∙ sym (put m) ∙ is) in (
                  before,
                  ap (subtable_of old) (equal_from_same m mask holds) ∙ at,
                  subst (λ (i : Subtable). room_of before.numbers ≤ room_of i.numbers) equal le,
                  subst (λ (i : Subtable). mask_of i.numbers ≡ mask_of before.numbers) equal same_mask,
                )
            | inr fails ↦ (subtable, sym (cond-false (same m mask) (Some after) (subtable_of old m) fails) ∙ sym (put m) ∙ is, omega arith, refl)
          ]

  pub put_same : ((k : List ℕ) → number_in after k ≡ number_in before k) → (m k : List ℕ) → number_under new m k ≡ number_under old m k
  put_same same_numbers m k =
      ap (option_and_then (λ (subtable : Subtable). number_in subtable k)) (put m)
      ∙ elim (cases_Bool (same m mask)) [
        | inl holds ↦
            ap (option_and_then (λ (subtable : Subtable). number_in subtable k)) (cond-true (same m mask) (Some after) (subtable_of old m) holds)
            ∙ same_numbers k
            ∙ sym (ap (option_and_then (λ (subtable : Subtable). number_in subtable k)) (ap (subtable_of old) (equal_from_same m mask holds) ∙ at))
        | inr fails ↦ ap (option_and_then (λ (subtable : Subtable). number_in subtable k)) (cond-false (same m mask) (Some after) (subtable_of old m) fails)
      ]

-- a subtable of a mask is put among others that are under theirs
pub put_masked : (old new : Subtables) (mask : List ℕ) (after : Subtable) → ((m : List ℕ) → subtable_of new m ≡ cond (same m mask) (Some after) (subtable_of old m))
    → mask_of after.numbers ≡ mask → AreUnderMasks old → AreUnderMasks new
put_masked old new mask after put of masked m subtable is =
    elim (cases_Bool (same m mask)) [
      | inl holds ↦
          let equal : after ≡ subtable = same_Some after subtable (sym (cond-true (same m mask) (Some after) (subtable_of old m) holds) ∙ sym (put m) ∙ is) in
          ap (λ (i : Subtable). mask_of i.numbers) (sym equal) ∙ of ∙ sym (equal_from_same m mask holds)
      | inr fails ↦ masked m subtable (sym (cond-false (same m mask) (Some after) (subtable_of old m) fails) ∙ sym (put m) ∙ is)
    ]

-- those that are left stay under their masks
pub kept_masked : (old new : Subtables) → KeepsRoom old new → AreUnderMasks old → AreUnderMasks new
kept_masked old new keeps masked m subtable is = let was = keeps.within m subtable is in was.3 ∙ masked m was.0 was.1

-- a write through what was lent for a mask
pub written_at : (old new : Subtables) (mask : Mask) (before after : Subtable) → subtable_of old (bits mask) ≡ Some before
    → WritesThrough (λ (a b : Mask). same (bits a) (bits b)) (λ (r : Mask). same (bits mask) (bits r)) old after new
    → (m : List ℕ) → subtable_of new m ≡ cond (same m (bits mask)) (Some after) (subtable_of old m)
written_at old new mask before after at writes = updated_at {K = Mask} (λ (r : Mask). bits r) old new (bits mask) (Some after) (writes.3 (ap is_some at))

-- where no subtable is found there is nothing to take out
pub nothing_to_remove : (old new : Subtables) (mask key : List ℕ) → new ≡ old → subtable_of old mask ≡ None → ChangesOnly old new mask key None
nothing_to_remove old new mask key equal none m k =
    ap (λ (t : Subtables). number_under t m k) equal
    ∙ elim (cases_Bool (same m mask && same k key)) [
      | inl holds ↦
          ap (option_and_then (λ (subtable : Subtable). number_in subtable k)) (ap (subtable_of old) (first m k holds) ∙ none)
          ∙ sym (cond-true (same m mask && same k key) None (number_under old m k) holds)
      | inr fails ↦ sym (cond-false (same m mask && same k key) None (number_under old m k) fails)
    ]
  where
    first : (m k : List ℕ) → (same m mask && same k key) ≡ true → m ≡ mask
    first m k holds = equal_from_same m mask ((and_parts (same m mask) (same k key) holds).0)

pub same_room : (old new : Subtables) → new ≡ old → KeepsRoom old new
same_room old new equal = subst (λ (t : Subtables). KeepsRoom old t) (sym equal) (record { subtables = omega arith; within = λ m subtable is. (subtable, is, omega arith, refl) })

-- a subtable with no numbers is taken out
pub emptied_goes : (old new : Subtables) (mask : List ℕ) (subtable : Subtable) → subtable_of old mask ≡ Some subtable → entries_of subtable.numbers ≡ [] → ((m : List ℕ) → subtable_of new m ≡ cond (same m mask) None (subtable_of old m))
    → (m k : List ℕ) → number_under new m k ≡ number_under old m k
emptied_goes old new mask subtable at empty gone m k =
    ap (option_and_then (λ (i : Subtable). number_in i k)) (gone m)
    ∙ elim (cases_Bool (same m mask)) [
      | inl holds ↦
          ap (option_and_then (λ (i : Subtable). number_in i k)) (cond-true (same m mask) None (subtable_of old m) holds)
          ∙ sym (ap (λ (es : List (List ℕ × ℕ)). lookup (same k) es) empty)
          ∙ sym (ap (option_and_then (λ (i : Subtable). number_in i k)) (ap (subtable_of old) (equal_from_same m mask holds) ∙ at))
      | inr fails ↦ ap (option_and_then (λ (i : Subtable). number_in i k)) (cond-false (same m mask) None (subtable_of old m) fails)
    ]

pub gone_room : (old new : Subtables) (mask : List ℕ) → ((m : List ℕ) → subtable_of new m ≡ cond (same m mask) None (subtable_of old m)) → spare old ≤ spare new → KeepsRoom old new
gone_room old new mask gone le = record { subtables = le; within = within }
  where
    within : (m : List ℕ) (subtable : Subtable) → subtable_of new m ≡ Some subtable → (was : Subtable) × (subtable_of old m ≡ Some was) × (room_of was.numbers ≤ room_of subtable.numbers) × (mask_of subtable.numbers ≡ mask_of was.numbers)
    within m subtable is =
        elim (cases_Bool (same m mask)) [
          | inl holds ↦ absurd (none-some subtable (sym (cond-true (same m mask) None (subtable_of old m) holds) ∙ sym (gone m) ∙ is))
          | inr fails ↦ (subtable, sym (cond-false (same m mask) None (subtable_of old m) fails) ∙ sym (gone m) ∙ is, omega arith, refl)
        ]

pub joined_rooms : (a b c : Subtables) → KeepsRoom a b → KeepsRoom b c → KeepsRoom a c
joined_rooms a b c first second = record {
  subtables = omega (arith, first.subtables, second.subtables);
  within = λ m subtable is.
      let later = second.within m subtable is in
      let sooner = first.within m later.0 later.1 in
      (sooner.0, sooner.1, omega (arith, later.2, sooner.2), later.3 ∙ sooner.3);
}

-- a new mask with a subtable of one number
pub new_mask : (old new : Subtables) (mask key : List ℕ) (subtable : Subtable) (number : ℕ) → subtable_of old mask ≡ None → (fresh : Subtable) → entries_of fresh.numbers ≡ [] → SubtableChangesOnly fresh subtable key (Some number)
    → ((m : List ℕ) → subtable_of new m ≡ cond (same m mask) (Some subtable) (subtable_of old m)) → ChangesOnly old new mask key (Some number)
new_mask old new mask key subtable number none fresh empty changes put m k =
    ap (option_and_then (λ (i : Subtable). number_in i k)) (put m)
    ∙ elim (cases_Bool (same m mask)) [
      | inl holds ↦
          ap (option_and_then (λ (i : Subtable). number_in i k)) (cond-true (same m mask) (Some subtable) (subtable_of old m) holds)
          ∙ changes k
          ∙ ap (cond (same k key) (Some number)) (ap (λ (es : List (List ℕ × ℕ)). lookup (same k) es) empty
          ∙ sym (ap (option_and_then (λ (i : Subtable). number_in i k)) (ap (subtable_of old) (equal_from_same m mask holds) ∙ none)))
          ∙ sym (ap (λ (b : Bool). cond (b && same k key) (Some number) (number_under old m k)) holds)
      | inr fails ↦
          ap (option_and_then (λ (i : Subtable). number_in i k)) (cond-false (same m mask) (Some subtable) (subtable_of old m) fails)
          ∙ sym (ap (λ (b : Bool). cond (b && same k key) (Some number) (number_under old m k)) fails)
    ]

pub written_here : (old new : Subtables) (mask : Mask) (before after : Subtable) → subtable_of old (bits mask) ≡ Some before
    → WritesThrough (λ (a b : Mask). same (bits a) (bits b)) (λ (r : Mask). same (bits mask) (bits r)) old after new → subtable_of new (bits mask) ≡ Some after
written_here old new mask before after at writes =
    written_at old new mask before after at writes (bits mask) ∙ cond-true (same (bits mask) (bits mask)) (Some after) (subtable_of old (bits mask)) (same_from_equal (bits mask) (bits mask) refl)

pub kept_subtables : (old new : Subtables) (mask : Mask) (before after : Subtable) → subtable_of old (bits mask) ≡ Some before
    → WritesThrough (λ (a b : Mask). same (bits a) (bits b)) (λ (r : Mask). same (bits mask) (bits r)) old after new → entries_of after.numbers ≡ entries_of before.numbers → room_of before.numbers ≤ room_of after.numbers → mask_of after.numbers ≡ mask_of before.numbers
    → KeepsNumbers old new
kept_subtables old new mask before after at writes entries le same_mask = record {
  room = put_room old new (bits mask) before after at (written_at old new mask before after at writes) (let spares = writes.6 in omega (arith, spares)) le same_mask;
  numbers = put_same old new (bits mask) before after at (written_at old new mask before after at writes) (λ k. ap (λ (es : List (List ℕ × ℕ)). lookup (same k) es) entries);
}

pub same_subtables : (old new : Subtables) → new ≡ old → KeepsNumbers old new
same_subtables old new equal = record { room = same_room old new equal; numbers = λ m k. ap (λ (t : Subtables). number_under t m k) equal }

pub kept_found : (old new : Subtables) → ((m : List ℕ) → subtable_of new m ≡ subtable_of old m) → spare old ≤ spare new → KeepsNumbers old new
kept_found old new found le = record {
  room = record { subtables = le; within = λ m subtable is. (subtable, sym (found m) ∙ is, omega arith, refl) };
  numbers = λ m k. ap (option_and_then (λ (subtable : Subtable). number_in subtable k)) (found m);
}

pub kept_whole : (old new : Subtables) → new.entries ≡ old.entries → spare old ≤ spare new → KeepsNumbers old new
kept_whole old new entries le = kept_found old new (λ m. ap (λ (es : List (Mask × Subtable)). lookup (λ (q : Mask). same m (bits q)) es) entries) le

pub joined_subtables : (a b c : Subtables) → KeepsNumbers a b → KeepsNumbers b c → KeepsNumbers a c
joined_subtables a b c first second = record { room = joined_rooms a b c first.room second.room; numbers = λ m k. second.numbers m k ∙ first.numbers m k }

-- the fresh subtable for a mask is empty under it
pub fresh_under : (fresh : Option Fresh) (mask : List ℕ) (f : Fresh) → IsFresh fresh → IsFreshUnder fresh mask → fresh ≡ Some f → IsEmptyUnder mask f.subtable
fresh_under fresh mask f is_fresh under at =
    subst (λ (m : List ℕ). IsEmptyUnder m f.subtable) (same_Some (bits f.mask) mask (sym (ap (option_map (λ (g : Fresh). bits g.mask)) at) ∙ under)) (is_fresh f at)
