-- The entries that overlap one of a key and a mask, found by subtables.
use Rattle.std.proofs.Common.{◌≡◌, ℕ, zero, suc, ◌+◌, ◌⊎◌, Bool, true, false, cond, List, [], ◌∷◌, ◌++◌, take, filter, Option, Some, None, bit_and, bit_or, get_or, drop, refl, sym, ap, ap₂, subst, ◌∙◌, inl, inr, arith}
use Rattle.std.specs.Prelude.{slice_get}
use Rattle.std.specs.List.{flat_map, AllByRecursion, IsDistinct}
use Rattle.std.specs.List.Sorted.{IsPermutation, IsNonDecreasing}
use Rattle.std.specs.Int.Bits.{and_zero_r}
use Rattle.std.specs.Map.{keys_of, values_of}
use Rattle.std.specs.Option.{option_map_or, option_to_list, option_and_then}
use Rattle.std.proofs.lemmas.Bool.{false≢true}
use Rattle.std.proofs.lemmas.List.{append-nil, append_assoc}
use Rattle.std.proofs.lemmas.Map.Entries.{place_from_lookup, lookup_from_place}
use Rattle.std.proofs.lemmas.Map.Keys.{IsDistinct-head, IsDistinct-tail}
use Rattle.std.proofs.lemmas.Nat.{and_or_self}
use Rattle.std.proofs.lemmas.Option.{none-some, same_Some, option_and_then_some}
use Rattle.masked_map.specs.Maps.{agreeing, entries_of, HasDistinctKeys}
use Rattle.spec_keys.specs.Keys.{agree, masked, joined, same, covers, common_bits}
use Rattle.ovs_fields.specs.Equality.{equal_from_same, same_from_equal, same_equivalence}
use Rattle.ovs_fields.specs.declared.mask.Mask.{Mask}
use Rattle.ovs_fields.specs.Packed.{numbers, bits}
use Rattle.megaflow_table.specs.declared.entry.Entry.{Entry}
use Rattle.megaflow_table.specs.Entries.{overlaps}
use Rattle.megaflow_table.specs.Live.{IsIn}
use Rattle.megaflow_table.specs.Parts.{IsConsistent, masked_key}
use Rattle.megaflow_table.specs.Subtables.{Subtable, Subtables, number_in, subtable_of, number_under}
use Rattle.megaflow_table.specs.Overlaps.{overlapping_in, HasDistinctMasks, IsScanned, AreScanned}
use Rattle.megaflow_table.proofs.OverlapLaws.{masked_common}
use Rattle.megaflow_table.proofs.RisingLaws.{AreDistinct, in_appended, in_first, in_second, distinct_appended, sorted_filter}

-- ---- subtable by subtable

-- one more subtable after those before a place
next_one : (f : Mask × Subtable → List ℕ) (es : List (Mask × Subtable)) (i : ℕ) (t : Mask × Subtable) → slice_get es i ≡ Some t
    → flat_map f (take i es) ++ f t ≡ flat_map f (take (suc i) es)
next_one f [] i t at = absurd (none-some t at)
next_one f (e ∷ es) zero t at = ap f (sym (same_Some e t at)) ∙ sym (append-nil (f e))
next_one f (e ∷ es) (suc i) t at = append_assoc (f e) (flat_map f (take i es)) (f t) ∙ ap (λ (ns : List ℕ). f e ++ ns) (next_one f es i t at)

pub added_one : (f : Mask × Subtable → List ℕ) (es : List (Mask × Subtable)) (i : ℕ) (t : Mask × Subtable) → slice_get es i ≡ Some t
    → flat_map f (take i es) ++ f t ≡ flat_map f (take (i + 1) es)
added_one f es i t at = let next : suc i ≡ i + 1 = omega arith in next_one f es i t at ∙ ap (λ (n : ℕ). flat_map f (take n es)) next

-- ---- a mask that covers another

joined-nil : (m : List ℕ) → joined m [] ≡ m
unfolding joined
joined-nil [] = refl
joined-nil (a ∷ m) = refl

-- the bits that it has in common with the other are the other's
common_covered : (k m n : List ℕ) → joined m n ≡ m → masked k (masked m n) ≡ masked k n
unfolding masked joined
common_covered [] m n all = refl
common_covered (x ∷ k) [] [] all = refl
common_covered (x ∷ k) [] (b ∷ n) all = cc
common_covered (x ∷ k) (a ∷ m) [] all = ap₂ (λ (y : ℕ) (ys : List ℕ). y ∷ ys) (and_zero_r x) (common_covered k m [] (joined-nil m))
common_covered (x ∷ k) (a ∷ m) (b ∷ n) all =
    let first : bit_or a b ≡ a = ap (λ (l : List ℕ). get_or l 0 0) all in
    let rest : joined m n ≡ m = ap (λ (l : List ℕ). drop 1 l) all in
    ap₂ (λ (y : ℕ) (ys : List ℕ). y ∷ ys) (ap (bit_and x) (ap (λ (y : ℕ). bit_and y b) (sym first) ∙ and_or_self b a)) (common_covered k m n rest)

-- so an entry of the other mask overlaps exactly where it covers the key
overlap_covered : (key mask : List ℕ) (e : Entry) → covers mask (bits e.mask) ≡ true → overlaps key mask e ≡ same (masked key (bits e.mask)) (masked_key e)
overlap_covered key mask e covered =
    let all = equal_from_same (joined mask (bits e.mask)) mask covered in
    ap₂ (λ (a b : List ℕ). same a b) (common_covered key mask (bits e.mask) all) (common_covered (numbers e.key) mask (bits e.mask) all)

-- ---- numbers at keys that pass a test

module _ (q : List ℕ → Bool) where
  abbrev passing : List (List ℕ × ℕ) → List ℕ
  passing es = values_of (filter (λ (e : List ℕ × ℕ). q e.0) es)

  passing_place : (n : ℕ) (es : List (List ℕ × ℕ)) → IsIn n (passing es) → (j : ℕ) × (k : List ℕ) × (slice_get es j ≡ Some (k, n)) × (q k ≡ true)
  passing_place n [] none = absurd none
  passing_place n (p ∷ es) is_in = at (q p.0) refl (passing_place n es) is_in
    where
      at : (b : Bool) → q p.0 ≡ b → (IsIn n (passing es) → (j : ℕ) × (k : List ℕ) × (slice_get es j ≡ Some (k, n)) × (q k ≡ true))
          → IsIn n (values_of (cond b (p ∷ filter (λ (e : List ℕ × ℕ). q e.0) es) (filter (λ (e : List ℕ × ℕ). q e.0) es)))
          → (j : ℕ) × (k : List ℕ) × (slice_get (p ∷ es) j ≡ Some (k, n)) × (q k ≡ true)
      at true passes tail (inl equal) = (0, p.0, ap (λ (m : ℕ). Some (p.0, m)) (sym equal), passes)
      at true passes tail (inr later) = let place = tail later in (suc place.0, place.1, place.2, place.3)
      at false fails tail later = let place = tail later in (suc place.0, place.1, place.2, place.3)

  passing_at : (n : ℕ) (es : List (List ℕ × ℕ)) (j : ℕ) (k : List ℕ) → slice_get es j ≡ Some (k, n) → q k ≡ true → IsIn n (passing es)
  passing_at n [] j k there passes = absurd (none-some (k, n) there)
  passing_at n (p ∷ es) zero k there passes = at (q p.0) (ap (λ (e : List ℕ × ℕ). q e.0) (same_Some p (k, n) there) ∙ passes) (ap (λ (e : List ℕ × ℕ). e.1) (sym (same_Some p (k, n) there)))
    where
      at : (b : Bool) → b ≡ true → n ≡ p.1 → IsIn n (values_of (cond b (p ∷ filter (λ (e : List ℕ × ℕ). q e.0) es) (filter (λ (e : List ℕ × ℕ). q e.0) es)))
      at true passes equal = inl equal
      at false fails equal = absurd (false≢true fails)
  passing_at n (p ∷ es) (suc j) k there passes = at (q p.0) (passing_at n es j k there passes)
    where
      at : (b : Bool) → IsIn n (passing es) → IsIn n (values_of (cond b (p ∷ filter (λ (e : List ℕ × ℕ). q e.0) es) (filter (λ (e : List ℕ × ℕ). q e.0) es)))
      at true later = inr later
      at false later = later

-- a key that no key here is the same as
other_keys : (key : List ℕ) (es : List (List ℕ × ℕ)) → AllByRecursion (λ (k : List ℕ). same key k ≡ false) (keys_of es) → (j : ℕ) (k : List ℕ) (n : ℕ) → slice_get es j ≡ Some (k, n)
    → key ≡ k → ⊥
other_keys key [] others j k n at equal = none-some (k, n) at
other_keys key (p ∷ es) others zero k n at equal =
    false≢true (sym others.0 ∙ same_from_equal key p.0 (equal ∙ ap (λ (q : List ℕ × ℕ). q.0) (sym (same_Some p (k, n) at))))
other_keys key (p ∷ es) others (suc j) k n at equal = other_keys key es others.1 j k n at equal

-- entries with distinct masked keys have distinct numbers
distinct_passing : (look : ℕ → Option Entry) (q : List ℕ → Bool) (es : List (List ℕ × ℕ)) → IsDistinct same (keys_of es)
    → ((j : ℕ) (k : List ℕ) (n : ℕ) → slice_get es j ≡ Some (k, n) → (e : Entry) × (look n ≡ Some e) × (k ≡ masked_key e)) → AreDistinct (passing q es)
distinct_passing look q [] keys held = tt
distinct_passing look q (p ∷ es) keys held =
    at (q p.0)
    (λ is_in.
    let place = passing_place q p.1 es is_in in
    let first = held 0 p.0 p.1 refl in
    let second = held (suc place.0) place.1 p.1 place.2 in
    other_keys p.0 es (IsDistinct-head same p.0 (keys_of es) keys) place.0 place.1 p.1 place.2
    (first.2 ∙ ap masked_key (same_Some first.0 second.0 (sym first.1 ∙ second.1)) ∙ sym second.2))
    (distinct_passing look q es (IsDistinct-tail same p.0 (keys_of es) keys) (λ j k n there. held (suc j) k n there))
  where
    at : (b : Bool) → (IsIn p.1 (passing q es) → ⊥) → AreDistinct (passing q es) → AreDistinct (values_of (cond b (p ∷ filter (λ (e : List ℕ × ℕ). q e.0) es) (filter (λ (e : List ℕ × ℕ). q e.0) es)))
    at true other tail = (other, tail)
    at false other tail = tail

-- ---- masks and numbers of subtables

-- a mask is among those of the subtables
abbrev IsMaskOf : List ℕ → List (Mask × Subtable) → Type 0
IsMaskOf m [] = ⊥
IsMaskOf m (t ∷ es) = (m ≡ bits t.0) ⊎ IsMaskOf m es

mask_at : (m : List ℕ) (es : List (Mask × Subtable)) (j : ℕ) (t : Mask × Subtable) → slice_get es j ≡ Some t → m ≡ bits t.0 → IsMaskOf m es
mask_at m [] j t at equal = absurd (none-some t at)
mask_at m (u ∷ es) zero t at equal = inl (equal ∙ ap (λ (v : Mask × Subtable). bits v.0) (sym (same_Some u t at)))
mask_at m (u ∷ es) (suc j) t at equal = inr (mask_at m es j t at equal)

-- the other subtables have other masks
other_masks : (t : Mask × Subtable) (es : List (Mask × Subtable)) → AllByRecursion (λ (m : Mask). same (bits t.0) (bits m) ≡ false) (keys_of es)
    → (m : List ℕ) → m ≡ bits t.0 → IsMaskOf m es → ⊥
other_masks t [] others m here none = none
other_masks t (u ∷ es) others m here (inl equal) = false≢true (sym others.0 ∙ same_from_equal (bits t.0) (bits u.0) (sym here ∙ equal))
other_masks t (u ∷ es) others m here (inr later) = other_masks t es others.1 m here later

-- A subtable has the numbers of the entries of its mask, each at its masked key.
record IsFilled (look : ℕ → Option Entry) (t : Mask × Subtable) : Type 0 where
  named : (k : List ℕ) (n : ℕ) → number_in t.1 k ≡ Some n → (e : Entry) × (look n ≡ Some e) × (bits e.mask ≡ bits t.0) × (k ≡ masked_key e)
  indexed : (n : ℕ) (e : Entry) → look n ≡ Some e → bits e.mask ≡ bits t.0 → number_in t.1 (masked_key e) ≡ Some n

-- ---- the numbers for some masks

module _ (look : ℕ → Option Entry) (key mask : List ℕ) where
  -- These are the numbers of the entries of some masks that overlap one of this key and mask, each once.
  record AreOf (P : List ℕ → Type 0) (xs : List ℕ) : Type 0 where
    sound : (n : ℕ) → IsIn n xs → (e : Entry) × (look n ≡ Some e) × P (bits e.mask) × (overlaps key mask e ≡ true)
    whole : (n : ℕ) (e : Entry) → look n ≡ Some e → P (bits e.mask) → overlaps key mask e ≡ true → IsIn n xs
    distinct : AreDistinct xs

  joined_of : (P Q : List ℕ → Type 0) (xs ys : List ℕ) → ((m : List ℕ) → P m → Q m → ⊥) → AreOf P xs → AreOf Q ys → AreOf (λ m. P m ⊎ Q m) (xs ++ ys)
  joined_of P Q xs ys apart first second = record {
    sound = λ n is_in. elim (in_appended n xs ys is_in) [
      | inl here ↦ let there = first.sound n here in (there.0, there.1, inl there.2, there.3)
      | inr here ↦ let there = second.sound n here in (there.0, there.1, inr there.2, there.3)
    ];
    whole = λ n e at of holds. elim of [
      | inl one ↦ in_first n xs ys (first.whole n e at one holds)
      | inr other ↦ in_second n xs ys (second.whole n e at other holds)
    ];
    distinct = distinct_appended xs ys first.distinct second.distinct (λ n left right.
        let one = first.sound n left in
        let other = second.sound n right in
        apart (bits one.0.mask) one.2 (subst (λ (e : Entry). Q (bits e.mask)) (same_Some other.0 one.0 (sym other.1 ∙ one.1)) other.2));
  }

  -- ---- one subtable

  module _ (t : Mask × Subtable) (filled : IsFilled look t) where
    -- an entry that overlaps stands at the key's bits
    found : covers mask (bits t.0) ≡ true → (n : ℕ) (e : Entry) → look n ≡ Some e → bits e.mask ≡ bits t.0 → overlaps key mask e ≡ true → number_in t.1 (masked key (bits t.0)) ≡ Some n
    found covered n e is of holds =
        let agrees = sym (overlap_covered key mask e (ap (covers mask) of ∙ covered)) ∙ holds in
        ap (number_in t.1) (ap (masked key) (sym of) ∙ equal_from_same (masked key (bits e.mask)) (masked_key e) agrees) ∙ filled.indexed n e is of

    -- at the key's bits under its mask there is the only one that can overlap
    probed : covers mask (bits t.0) ≡ true → (o : Option ℕ) → number_in t.1 (masked key (bits t.0)) ≡ o → AreOf (λ m. m ≡ bits t.0) (option_to_list o)
    probed covered None at = record {
      sound = λ n none. absurd none;
      whole = λ n e is of holds. absurd (none-some n (sym at ∙ found covered n e is of holds));
      distinct = tt;
    }
    probed covered (Some n) at = record {
      sound = only;
      whole = λ m e is of holds. inl (same_Some m n (sym (found covered m e is of holds) ∙ at));
      distinct = (λ none. absurd none, tt);
    }
      where
        only : (m : ℕ) → IsIn m (n ∷ []) → (e : Entry) × (look m ≡ Some e) × (bits e.mask ≡ bits t.0) × (overlaps key mask e ≡ true)
        only m (inr none) = absurd none
        only m (inl equal) =
            let there = filled.named (masked key (bits t.0)) n at in (
              there.0,
              ap look equal ∙ there.1,
              there.2,
              overlap_covered key mask there.0 (ap (covers mask) there.2 ∙ covered)
                  ∙ same_from_equal (masked key (bits there.0.mask)) (masked_key there.0) (ap (masked key) there.2 ∙ there.3),
            )

    -- what stands at a place is an entry's
    held : HasDistinctKeys t.1.numbers → (j : ℕ) (k : List ℕ) (n : ℕ) → slice_get (entries_of t.1.numbers) j ≡ Some (k, n) → (e : Entry) × (look n ≡ Some e) × (bits e.mask ≡ bits t.0) × (k ≡ masked_key e)
    held keys j k n at = filled.named k n (lookup_from_place (same_equivalence (λ (k : List ℕ). k)) (entries_of t.1.numbers) j k n keys at)

    -- the test by the masked key of an entry is that by the entry
    tested : (k : List ℕ) (e : Entry) → bits e.mask ≡ bits t.0 → k ≡ masked_key e → agree key k (common_bits mask (bits t.0)) ≡ overlaps key mask e
    tested k e of is =
        ap₂ (λ (a m : List ℕ). agree key a (common_bits mask m)) is (sym of)
        ∙ ap (same (masked key (common_bits mask (bits e.mask)))) (masked_common (numbers e.key) mask (bits e.mask))

    scanned : HasDistinctKeys t.1.numbers → AreOf (λ m. m ≡ bits t.0) (agreeing key (common_bits mask (bits t.0)) (entries_of t.1.numbers))
    scanned keys = record {
      sound = λ n is_in.
          let place = passing_place passes n (entries_of t.1.numbers) is_in in
          let there = held keys place.0 place.1 n place.2 in
          (there.0, there.1, there.2, sym (tested place.1 there.0 there.2 there.3) ∙ place.3);
      whole = λ n e is of holds.
          let place = place_from_lookup (same (masked_key e)) (entries_of t.1.numbers) n (filled.indexed n e is of) in
          passing_at passes n (entries_of t.1.numbers) place.0 place.1 place.2 (tested place.1 e of (sym (equal_from_same (masked_key e) place.1 place.3)) ∙ holds);
      distinct = distinct_passing look passes (entries_of t.1.numbers) keys (λ j k n at. let there = held keys j k n at in (there.0, there.1, there.3));
    }
      where
        passes : List ℕ → Bool
        passes k = agree key k (common_bits mask (bits t.0))

    -- so either way
    one_of : IsScanned mask t → AreOf (λ m. m ≡ bits t.0) (overlapping_in key mask t)
    one_of is_scanned = at (covers mask (bits t.0)) refl
      where
        at : (b : Bool) → covers mask (bits t.0) ≡ b
            → AreOf (λ m. m ≡ bits t.0) (cond b (option_to_list (number_in t.1 (masked key (bits t.0)))) (agreeing key (common_bits mask (bits t.0)) (entries_of t.1.numbers)))
        at true covered = probed covered (number_in t.1 (masked key (bits t.0))) refl
        at false other = scanned (is_scanned other)

  -- ---- all subtables

  collected : (es : List (Mask × Subtable)) → IsDistinct (λ (a b : Mask). same (bits a) (bits b)) (keys_of es) → ((j : ℕ) (t : Mask × Subtable) → slice_get es j ≡ Some t → IsFilled look t)
      → AreScanned mask es → AreOf (λ m. IsMaskOf m es) (flat_map (overlapping_in key mask) es)
  collected [] masks filled are_scanned = record { sound = λ n none. absurd none; whole = λ n e is none holds. absurd none; distinct = tt }
  collected (t ∷ es) masks filled are_scanned =
      joined_of (λ m. m ≡ bits t.0) (λ m. IsMaskOf m es) (overlapping_in key mask t) (flat_map (overlapping_in key mask) es)
      (λ m here later. other_masks t es (IsDistinct-head (λ (a b : Mask). same (bits a) (bits b)) t.0 (keys_of es) masks) m here later)
      (one_of t (filled 0 t refl) (are_scanned 0 t refl))
      (collected es (IsDistinct-tail (λ (a b : Mask). same (bits a) (bits b)) t.0 (keys_of es) masks) (λ j u at. filled (suc j) u at) (λ j u at. are_scanned (suc j) u at))

module _ (live : List ℕ) (look : ℕ → Option Entry) (subtables : Subtables) (sound : IsConsistent live look (number_under subtables)) where
  -- each subtable has the entries of its mask
  filled_at : HasDistinctMasks subtables → (j : ℕ) (t : Mask × Subtable) → slice_get subtables.entries j ≡ Some t → IsFilled look t
  filled_at masks j t at = record {
    named = λ k n is. sound.named (bits t.0) k n (ap (option_and_then (λ (subtable : Subtable). number_in subtable k)) there ∙ is);
    indexed = λ n e is of.
        sym (ap (option_and_then (λ (subtable : Subtable). number_in subtable (masked_key e))) (ap (subtable_of subtables) of ∙ there)) ∙ sound.indexed n e is;
  }
    where
      there : subtable_of subtables (bits t.0) ≡ Some t.1
      there = lookup_from_place (same_equivalence {K = Mask} (λ (m : Mask). bits m)) subtables.entries j t.0 t.1 masks at

  -- the mask of each entry has its subtable
  mask_there : (n : ℕ) (e : Entry) → look n ≡ Some e → IsMaskOf (bits e.mask) subtables.entries
  mask_there n e is =
      option_and_then_some (λ (subtable : Subtable). number_in subtable (masked_key e)) (subtable_of subtables (bits e.mask)) n (sound.indexed n e is)
      (λ subtable at found.
      let place = place_from_lookup (λ (m : Mask). same (bits e.mask) (bits m)) subtables.entries subtable at in
      mask_at (bits e.mask) subtables.entries place.0 (place.1, subtable) place.2 (equal_from_same (bits e.mask) (bits place.1) place.3))

  -- what is found, sorted, is those of the live numbers whose entries overlap
  pub sorted_overlapping : (key mask ns : List ℕ) → HasDistinctMasks subtables → AreScanned mask subtables.entries
      → IsPermutation (flat_map (overlapping_in key mask) subtables.entries) ns → IsNonDecreasing ns → ns ≡ filter (λ n. option_map_or (overlaps key mask) (look n) false) live
  sorted_overlapping key mask ns masks are_scanned moved sorted =
      let all = collected look key mask subtables.entries masks (filled_at masks) are_scanned in
      sorted_filter (λ n. option_map_or (overlaps key mask) (look n) false) live (flat_map (overlapping_in key mask) subtables.entries) ns sound.rising all.distinct moved sorted
      (λ n is_in. let there = all.sound n is_in in (sound.within n there.0 there.1, ap (λ (o : Option Entry). option_map_or (overlaps key mask) o false) there.1 ∙ there.3))
      (λ n is_in passes.
      let there = sound.found n is_in in
      all.whole n there.0 there.1 (mask_there n there.0 there.1) (sym (ap (λ (o : Option Entry). option_map_or (overlaps key mask) o false) there.1) ∙ passes))
