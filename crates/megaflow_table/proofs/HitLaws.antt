-- A subtable at its place: which mask it is of, what is written there, and one more hit of it.
use Rattle.std.proofs.Common.{◌≡◌, ℕ, ◌+◌, ◌<◌, ◌≤◌, ◌^◌, cond, List, [], ◌∷◌, length, get_or, Option, Some, None, refl, sym, ap, subst, ◌∙◌, arith}
use Rattle.std.specs.Prelude.{slice_get, IfSome}
use Rattle.std.specs.List.{swap}
use Rattle.std.specs.Map.{keys_of}
use Rattle.std.specs.Option.{option_map}
use Rattle.std.proofs.lemmas.List.Quantifiers.{position-Some}
use Rattle.std.proofs.lemmas.Map.Entries.{lookup_from_place}
use Rattle.std.proofs.lemmas.Option.{same_Some, slice_get-map, slice_get-get_or, get_or_from_slice_get, slice_get_within}
use Rattle.indexmap.specs.IndexMap.{index_of_by, index_map_len, with_value_at, spare, IsReordered}
use Rattle.indexmap.proofs.CallerLemmas.{updates-with_value_at}
use Rattle.spec_keys.specs.Keys.{same}
use Rattle.ovs_fields.specs.Equality.{equal_from_same, same_equivalence}
use Rattle.ovs_fields.specs.declared.mask.Mask.{Mask}
use Rattle.ovs_fields.specs.Packed.{bits}
use Rattle.megaflow_table.specs.Order.{AreFalling, CountsHit, with_hit}
use Rattle.megaflow_table.specs.Overlaps.{HasDistinctMasks}
use Rattle.megaflow_table.specs.Subtables.{Subtable, Subtables, subtable_of, order_of, IsRanked, KeepsNumbers}
use Rattle.megaflow_table.proofs.SubtableLaws.{updated_at, put_room, put_same, kept_found, joined_subtables}
use Rattle.megaflow_table.proofs.RankLaws.{counts, counts_at, length-counts, counts-set_value_at, counts-swap, reordered_at, hit_here, hit_moves}
use Rattle.megaflow_table.proofs.OrderLaws.{put_counts, same_hits}

-- the mask at a place of the order is that of the subtable there
pub mask_at : (subtables : Subtables) (place : ℕ) (t : Mask × Subtable) (mask : List ℕ) → slice_get subtables.entries place ≡ Some t → bits t.0 ≡ mask
    → option_map (λ (r : List ℕ × ℕ). r.0) (slice_get (order_of subtables) place) ≡ Some mask
mask_at subtables place t mask at is =
    ap (option_map (λ (r : List ℕ × ℕ). r.0)) (slice_get-map (λ (u : Mask × Subtable). (bits u.0, u.1.hits)) subtables.entries place ∙ ap (option_map (λ (u : Mask × Subtable). (bits u.0, u.1.hits))) at)
    ∙ ap Some is

mask_of_place : (subtables : Subtables) (place : ℕ) (t : Mask × Subtable) (mask : List ℕ) → slice_get subtables.entries place ≡ Some t
    → option_map (λ (r : List ℕ × ℕ). r.0) (slice_get (order_of subtables) place) ≡ Some mask → bits t.0 ≡ mask
mask_of_place subtables place t mask at is = same_Some (bits t.0) mask (sym (mask_at subtables place t (bits t.0) at refl) ∙ is)

-- a search by a mask answers the place of its subtable
mask_at_index : (subtables : Subtables) (mask : Mask) (place : ℕ) → index_of_by (λ (r : Mask). same (bits mask) (bits r)) subtables ≡ Some place → place < length subtables.entries
    → option_map (λ (r : List ℕ × ℕ). r.0) (slice_get (order_of subtables) place) ≡ Some (bits mask)
mask_at_index subtables mask place index within = at subtables.entries refl
  where
    at : (es : List (Mask × Subtable)) → subtables.entries ≡ es → option_map (λ (r : List ℕ × ℕ). r.0) (slice_get (order_of subtables) place) ≡ Some (bits mask)
    at [] is = absurd (let none = ap length is in omega (arith, within, none))
    at (d ∷ es) is =
        let t = get_or subtables.entries place d in
        let there = slice_get-get_or subtables.entries place d within in
        let found = position-Some (λ (r : Mask). same (bits mask) (bits r)) (keys_of subtables.entries) place t.0 index in
        let here : get_or (keys_of subtables.entries) place t.0 ≡ t.0 =
        get_or_from_slice_get (keys_of subtables.entries) place t.0 t.0 (slice_get-map (λ (u : Mask × Subtable). u.0) subtables.entries place ∙ ap (option_map (λ (u : Mask × Subtable). u.0)) there) in
        mask_at subtables place t (bits mask) there (sym (equal_from_same (bits mask) (bits t.0) (ap (λ (r : Mask). same (bits mask) (bits r)) (sym here) ∙ found.1)))

pub masks_found : (subtables : Subtables) (mask : Mask) (found : Option ℕ) → found ≡ index_of_by (λ (r : Mask). same (bits mask) (bits r)) subtables → IfSome found (λ place. place < index_map_len subtables)
    → IfSome found (λ place. option_map (λ (r : List ℕ × ℕ). r.0) (slice_get (order_of subtables) place) ≡ Some (bits mask))
masks_found subtables mask None index within = tt
masks_found subtables mask (Some place) index within = mask_at_index subtables mask place (sym index) within

-- the subtable of a mask is written at its place
module _ (old : Subtables) (mask : Mask) (place : ℕ) (k : Mask) (before after : Subtable)
    (found_at : option_map (λ (r : List ℕ × ℕ). r.0) (slice_get (order_of old) place) ≡ Some (bits mask)) (at : slice_get old.entries place ≡ Some (k, before)) (unique : HasDistinctMasks old) where
  same_mask : bits k ≡ bits mask
  same_mask = mask_of_place old place (k, before) (bits mask) at found_at

  found_there : subtable_of old (bits mask) ≡ Some before
  found_there = ap (subtable_of old) (sym same_mask) ∙ lookup_from_place (same_equivalence {K = Mask} (λ (m : Mask). bits m)) old.entries place k before unique at

  put_there : (m : List ℕ) → subtable_of (with_value_at old place after) m ≡ cond (same m (bits mask)) (Some after) (subtable_of old m)
  put_there m =
      updated_at {K = Mask} (λ (r : Mask). bits r) old (with_value_at old place after) (bits k) (Some after) (updates-with_value_at old place after (same_equivalence {K = Mask} (λ (r : Mask). bits r)) unique k before at) m
      ∙ ap (λ (l : List ℕ). cond (same m l) (Some after) (subtable_of old m)) same_mask

-- the same at the place that a search by the mask answers
module _ (old : Subtables) (mask : Mask) (place : ℕ) (t : Mask × Subtable) (index : Some place ≡ index_of_by (λ (r : Mask). same (bits mask) (bits r)) old) (within : place < index_map_len old)
    (at : slice_get old.entries place ≡ Some t) (unique : HasDistinctMasks old) where
  pub found_by_index : subtable_of old (bits mask) ≡ Some t.1
  found_by_index = found_there old mask place t.0 t.1 t.1 (mask_at_index old mask place (sym index) within) at unique

  pub put_by_index : (after : Subtable) (m : List ℕ) → subtable_of (with_value_at old place after) m ≡ cond (same m (bits mask)) (Some after) (subtable_of old m)
  put_by_index after = put_there old mask place t.0 t.1 after (mask_at_index old mask place (sym index) within) at unique

-- one more hit of a mask
module _ (old : Subtables) (mask : Mask) (place : ℕ) (k : Mask) (before : Subtable) (n : ℕ)
    (found_at : option_map (λ (r : List ℕ × ℕ). r.0) (slice_get (order_of old) place) ≡ Some (bits mask)) (at : slice_get old.entries place ≡ Some (k, before)) (unique : HasDistinctMasks old)
    (one_more : n ≡ with_hit before.hits) where
  abbrev pub after : Subtable
  after = record before { hits = n }

  abbrev pub written : Subtables
  written = with_value_at old place after

  there : subtable_of old (bits mask) ≡ Some before
  there = found_there old mask place k before after found_at at unique

  put : (m : List ℕ) → subtable_of written m ≡ cond (same m (bits mask)) (Some after) (subtable_of old m)
  put = put_there old mask place k before after found_at at unique

  pub written_keeps : KeepsNumbers old written
  written_keeps = record {
    room = put_room old written (bits mask) before after there put (omega arith) (omega arith) refl;
    numbers = put_same old written (bits mask) before after there put (λ key. refl);
  }

  pub written_counts : CountsHit (bits mask) (order_of old) (order_of written)
  written_counts = put_counts old written (bits mask) before after there one_more put

  module _ (first : ℕ) (small : before.hits < 2 ^ 64) (ranked : IsRanked old) (at_most : first ≤ place)
      (above : (j : ℕ) → j < first → get_or (counts old.entries) place 0 < get_or (counts old.entries) j 0)
      (equal : get_or (counts old.entries) first 0 ≡ get_or (counts old.entries) place 0) where
    within : place < length (counts old.entries)
    within = let lt = slice_get_within old.entries place (k, before) at in let long = length-counts old.entries in omega (arith, lt, long)

    least : get_or (counts old.entries) place 0 ≤ n
    least = let here = counts_at old.entries place (k, before) at in omega (arith, here, one_more, small)

    most : n ≤ get_or (counts old.entries) place 0 + 1
    most = let here = counts_at old.entries place (k, before) at in omega (arith, here, one_more)

    pub written_ranked : place ≤ first → IsRanked written
    written_ranked le =
        subst AreFalling (sym (counts-set_value_at old.entries place after))
        (hit_here (counts old.entries) place first n ranked at_most within above equal least most le)

    module _ (new : Subtables) (entries : new.entries ≡ swap written.entries first place) (reordered : IsReordered (λ (a b : Mask). same (bits a) (bits b)) written new) (room : spare written ≤ spare new) where
      found : (m : List ℕ) → subtable_of new m ≡ subtable_of written m
      found m = reordered_at written.entries new.entries (λ q. reordered.2 q) m

      pub moved_keeps : KeepsNumbers old new
      moved_keeps = joined_subtables old written new written_keeps (kept_found written new found room)

      pub moved_counts : CountsHit (bits mask) (order_of old) (order_of new)
      moved_counts m = same_hits written new found m ∙ written_counts m

      pub moved_ranked : first < place → IsRanked new
      moved_ranked lt =
          subst (λ (es : List (Mask × Subtable)). AreFalling (counts es)) (sym entries)
          (subst AreFalling (sym (counts-swap written.entries first place ∙ ap (λ (ns : List ℕ). swap ns first place) (counts-set_value_at old.entries place after)))
          (hit_moves (counts old.entries) place first n ranked at_most within above equal least most lt))
