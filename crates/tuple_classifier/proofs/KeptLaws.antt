-- The subtables of a table in the map that keeps them by their masks.
use Rattle.std.proofs.Common.{◌≡◌, ℕ, zero, suc, ◌+◌, ◌-◌, ◌<◌, Bool, true, false, nat_lt, List, [], ◌∷◌, ◌++◌, length, map, set, get_or, take, slice_get, Option, Some, None, IfSome, IsNone, refl, sym, ap, ◌∙◌, subst, arith}
use Rattle.std.specs.List.{swap_remove, position, position_or_len}
use Rattle.std.proofs.lemmas.Bool.{ltb-false, cond-true, false≢true}
use Rattle.std.proofs.lemmas.List.{take-map, map-set, map-append, get_or-map, length-map, length-append, length-take, length-set}
use Rattle.std.proofs.lemmas.List.Elements.{All-cons, All-head, All-tail, All-push, All-take, All-set}
use Rattle.std.proofs.lemmas.List.Quantifiers.{position-Some}
use Rattle.std.proofs.lemmas.List.Sums.{fails_before_first}
use Rattle.std.proofs.lemmas.Option.{slice_get_within, get_or_from_slice_get, none-some, same_Some}
use Rattle.indexmap.specs.Layout.{set_value_at, length-set_value_at}
use Rattle.spec_keys.specs.Keys.{same}
use Rattle.spec_tables.specs.Rules.{Rule}
use Rattle.ovs_fields.specs.declared.mask.Mask.{Mask}
use Rattle.ovs_fields.specs.Packed.{bits}
use Rattle.tuple_classifier.specs.declared.subtable.Subtable.{Subtable}
use Rattle.tuple_classifier.specs.declared.subtables.Subtables.{Subtables}
use Rattle.tuple_classifier.specs.Kept.{AreKeptOf, by_place, ranked}
use Rattle.tuple_classifier.specs.Numbers.{times}
use Rattle.tuple_classifier.specs.Order.{AreRankedOf, IsFallingAlong, IsFallingBut, HasGreatest, has_from}
use Rattle.tuple_classifier.specs.Parts.{AreSubtablesOf, of_mask}
use Rattle.tuple_classifier.specs.Placed.{AreKeyed, IsOrderOf, AreWithin}
use Rattle.tuple_classifier.proofs.OrderLaws.{falling_in_order, falling_set, falling_same, falling_end}
use Rattle.tuple_classifier.proofs.PlacedLaws.{one_if, there, order_within, order_more, in_order-length, at_in_order}
use Rattle.tuple_classifier.proofs.Places.{turned, set_at}
use Rattle.tuple_classifier.proofs.TableLaws.{are_in_order, drop_mask}

abbrev Entries : Type 0
Entries = List (Mask × Subtable)

abbrev masks : Entries → List Mask
masks es = map (λ e. e.0) es

abbrev subtables : Entries → List Subtable
subtables es = map (λ e. e.1) es

pub length-subtables : (es : Entries) → length (subtables es) ≡ length es
length-subtables es = length-map es (λ (e : Mask × Subtable). e.1)

pub subtable_at : (es : Entries) (i : ℕ) → i < length es → (s : Subtable) × (slice_get (subtables es) i ≡ Some s)
subtable_at es i within = there (subtables es) i (let n = length-subtables es in omega (arith, within, n))

-- ---- one subtable written, one more and one less

subtables_set : (es : Entries) (i : ℕ) (t : Subtable) → subtables (set_value_at es i t) ≡ set (subtables es) i t
subtables_set [] i t = refl
subtables_set (e ∷ es) zero t = refl
subtables_set (e ∷ es) (suc i) t = ap (λ (ss : List Subtable). e.1 ∷ ss) (subtables_set es i t)

subtables_end : (es : Entries) (m : Mask) (t : Subtable) → subtables (es ++ (m, t) ∷ []) ≡ subtables es ++ t ∷ []
subtables_end es m t = map-append (λ (e : Mask × Subtable). e.1) es ((m, t) ∷ [])

subtables_swapped : (es : Entries) (i : ℕ) (d : Mask × Subtable) → i < length es → subtables (swap_remove es i d) ≡ swap_remove (subtables es) i d.1
subtables_swapped es i d within =
    sym (take-map (λ (e : Mask × Subtable). e.1) (length es - 1) (set es i (get_or es (length es - 1) d)))
    ∙ ap (take (length es - 1)) (map-set (λ (e : Mask × Subtable). e.1) es i (get_or es (length es - 1) d)
    ∙ ap (set (subtables es) i) (sym (get_or-map (λ (e : Mask × Subtable). e.1) es (length es - 1) d d.1 (omega (arith, within)))))
    ∙ ap (λ (n : ℕ). take (n - 1) (set (subtables es) i (get_or (subtables es) (n - 1) d.1))) (sym (length-subtables es))

abbrev IsKeyed : Mask × Subtable → Type 0
IsKeyed e = bits e.0 ≡ bits e.1.staged.mask

keyed_set : (es : Entries) (i : ℕ) (s t : Subtable) → slice_get (subtables es) i ≡ Some s → bits t.staged.mask ≡ bits s.staged.mask → AreKeyed es → AreKeyed (set_value_at es i t)
keyed_set [] i s t at e keyed = keyed
keyed_set (x ∷ es) zero s t at e keyed =
    All-cons IsKeyed (x.0, t) es (All-head IsKeyed x es keyed ∙ ap (λ (y : Subtable). bits y.staged.mask) (same_Some x.1 s at) ∙ sym e) (All-tail IsKeyed x es keyed)
keyed_set (x ∷ es) (suc i) s t at e keyed =
    All-cons IsKeyed x (set_value_at es i t) (All-head IsKeyed x es keyed) (keyed_set es i s t at e (All-tail IsKeyed x es keyed))

keyed_end : (es : Entries) (m : Mask) (t : Subtable) → bits m ≡ bits t.staged.mask → AreKeyed es → AreKeyed (es ++ (m, t) ∷ [])
keyed_end es m t is keyed = All-push IsKeyed es (m, t) keyed is

keyed_swapped : (es : Entries) (i : ℕ) (d : Mask × Subtable) → i < length es → AreKeyed es → AreKeyed (swap_remove es i d)
keyed_swapped es i d within keyed =
    All-take IsKeyed (length es - 1) (set es i (get_or es (length es - 1) d)) (All-set IsKeyed es i (get_or es (length es - 1) d) (keyed (length es - 1) d (omega (arith, within))) keyed)

-- ---- the place of a mask

module _ (mask : List ℕ) where
  abbrev is_of : Mask → Bool
  is_of m = same mask (bits m)

  -- the mask of the subtable at a place is the key there
  key_at : (es : Entries) (i : ℕ) (s : Subtable) (m : Mask) → AreKeyed es → slice_get (subtables es) i ≡ Some s → bits (get_or (masks es) i m) ≡ bits s.staged.mask
  key_at es i s m keyed at =
      let within : i < length es = (let l = slice_get_within (subtables es) i s at in let n = length-subtables es in omega (arith, l, n)) in
      ap bits (get_or-map (λ (e : Mask × Subtable). e.0) es i (m, s) m within) ∙ keyed i (m, s) within
      ∙ ap (λ (t : Subtable). bits t.staged.mask) (sym (get_or-map (λ (e : Mask × Subtable). e.1) es i (m, s) s within) ∙ get_or_from_slice_get (subtables es) i s s at)

  found_mask : (es : Entries) (m : Mask) (i : ℕ) → AreKeyed es → position is_of (masks es) ≡ Some i → (i < length es) × ((s : Subtable) → slice_get (subtables es) i ≡ Some s → same (bits s.staged.mask) mask ≡ true)
  found_mask es m i keyed is =
      let p = position-Some is_of (masks es) i m is in (
        (let l = p.0 in let n = length-map es (λ (e : Mask × Subtable). e.0) in omega (arith, l, n)),
        λ s at. turned mask (bits s.staged.mask) true (ap (same mask) (sym (key_at es i s m keyed at)) ∙ p.1),
      )

  missing_mask : (es : Entries) (m : Mask) → AreKeyed es → position is_of (masks es) ≡ None → (i : ℕ) (s : Subtable) → slice_get (subtables es) i ≡ Some s → same (bits s.staged.mask) mask ≡ false
  missing_mask es m keyed is i s at =
      turned mask (bits s.staged.mask) false (ap (same mask) (sym (key_at es i s m keyed at)) ∙ fails_before_first is_of (masks es) i m (by (nat_lt (position_or_len is_of (masks es)) (length (masks es))) refl))
    where
      within : i < length (masks es)
      within = let l = slice_get_within (subtables es) i s at in let n = length-subtables es in let k = length-map es (λ (e : Mask × Subtable). e.0) in omega (arith, l, n, k)

      by : (t : Bool) → nat_lt (position_or_len is_of (masks es)) (length (masks es)) ≡ t → i < position_or_len is_of (masks es)
      by true e = absurd (none-some (position_or_len is_of (masks es)) (sym is ∙ cond-true _ (Some (position_or_len is_of (masks es))) None e))
      by false e = let h = ltb-false (position_or_len is_of (masks es)) (length (masks es)) e in omega (arith, h, within)

  pub found_masks : (es : Entries) (m : Mask) → AreKeyed es → (r : Option ℕ) → r ≡ position is_of (masks es) → IfSome r (λ i. (i < length es) × ((s : Subtable) → slice_get (subtables es) i ≡ Some s → same (bits s.staged.mask) mask ≡ true))
  found_masks es m keyed None is = tt
  found_masks es m keyed (Some i) is = found_mask es m i keyed (sym is)

  pub missing_masks : (es : Entries) (m : Mask) → AreKeyed es → (r : Option ℕ) → r ≡ position is_of (masks es) → IsNone r → (i : ℕ) (s : Subtable) → slice_get (subtables es) i ≡ Some s → same (bits s.staged.mask) mask ≡ false
  missing_masks es m keyed None is none = missing_mask es m keyed (sym is)
  missing_masks es m keyed (Some i) is none = absurd (false≢true (sym none))

-- ---- as lookups come to them

order_of : (s : Subtables) → IsOrderOf (length (by_place s)) s.order.items
order_of s = subst (λ (n : ℕ). IsOrderOf n s.order.items) (sym (length-subtables s.by_mask.entries)) s.placed

within_order : (s : Subtables) → AreWithin (length (by_place s)) s.order.items
within_order s = order_within (length (by_place s)) s.order.items (order_of s)

pub length-ranked : (s : Subtables) → length (ranked s) ≡ length s.order.items
length-ranked s = in_order-length (by_place s) s.order.items (within_order s)

pub ranked_at : (s : Subtables) (i p : ℕ) (t : Subtable) → slice_get s.order.items i ≡ Some p → slice_get (by_place s) p ≡ Some t → slice_get (ranked s) i ≡ Some t
ranked_at s i p t at_i at_p = at_in_order (by_place s) s.order.items (within_order s) i p t at_i at_p

pub ranked_of : (s : Subtables) (rs : List Rule) → AreKeptOf s rs → AreRankedOf (ranked s) rs
ranked_of s rs are = record {
  subtables = are_in_order (by_place s) s.order.items rs (order_of s) are.subtables;
  falling = falling_in_order (by_place s) s.order.items (within_order s) are.falling;
}

-- ---- one subtable written in the place of another of its mask

pub keyed_in_place : (es : Entries) (place : ℕ) (s t : Subtable) → slice_get (subtables es) place ≡ Some s → t.staged.mask ≡ s.staged.mask → AreKeyed es → AreKeyed (set_value_at es place t)
keyed_in_place es place s t at same_mask keyed = keyed_set es place s t at (ap bits same_mask) keyed

pub order_in_place : (es : Entries) (order : List ℕ) (place : ℕ) (t : Subtable) → IsOrderOf (length es) order → IsOrderOf (length (set_value_at es place t)) order
order_in_place es order place t placed = subst (λ (n : ℕ). IsOrderOf n order) (sym (length-set_value_at es place t)) placed

module _ (es : Entries) (order : List ℕ) (place : ℕ) (s t : Subtable) (at : slice_get (subtables es) place ≡ Some s) where
  abbrev written : List Subtable
  written = subtables (set_value_at es place t)

  pub rules_written : (rs : List Rule) → AreSubtablesOf (set (subtables es) place t) rs → AreSubtablesOf written rs
  rules_written rs are = subst (λ (ss : List Subtable). AreSubtablesOf ss rs) (sym (subtables_set es place t)) are

  pub falls_written : IsFallingAlong (set (subtables es) place t) order → IsFallingAlong written order
  falls_written falling = subst (λ (ss : List Subtable). IsFallingAlong ss order) (sym (subtables_set es place t)) falling

  pub falls_but : IsFallingAlong (subtables es) order → IsFallingBut place written order
  falls_but falling = subst (λ (ss : List Subtable). IsFallingBut place ss order) (sym (subtables_set es place t)) (falling_set (subtables es) order place s t at falling)

  -- where its greatest priority is that of the other it stands right
  pub falls_alike : (x : Subtable) (before : Option ℕ) → slice_get (subtables es) place ≡ Some x → HasGreatest x.indexes before → IsFallingAlong (subtables es) order
      → (u : Subtable) → slice_get written place ≡ Some u → HasGreatest u.indexes before → IsFallingAlong written order
  falls_alike x before at_x was falling u at_u is =
      let old : x ≡ s = same_Some x s (sym at_x ∙ at) in
      let new : u ≡ t = same_Some u t (sym at_u ∙ ap (λ (ss : List Subtable). slice_get ss place) (subtables_set es place t) ∙ set_at (subtables es) place s t at) in
      falls_written (falling_same (subtables es) order place s t at (λ floor.
      ap (λ (y : Subtable). has_from floor y.indexes) (sym new) ∙ is floor ∙ sym (was floor) ∙ ap (λ (y : Subtable). has_from floor y.indexes) old) falling)

-- ---- a new mask

module _ (es new : Entries) (m : Mask) (t : Subtable) (more : new ≡ es ++ (m, t) ∷ []) where
  length_more : length new ≡ length es + 1
  length_more = ap length more ∙ length-append es ((m, t) ∷ [])

  pub keyed_more : bits m ≡ bits t.staged.mask → AreKeyed es → AreKeyed new
  keyed_more is keyed = subst AreKeyed (sym more) (keyed_end es m t is keyed)

  subtables_more : subtables new ≡ subtables es ++ t ∷ []
  subtables_more = ap subtables more ∙ subtables_end es m t

  pub rules_more : (rs : List Rule) → AreSubtablesOf (subtables es ++ t ∷ []) rs → AreSubtablesOf (subtables new) rs
  rules_more rs are = subst (λ (ss : List Subtable). AreSubtablesOf ss rs) (sym subtables_more) are

  module _ (order : List ℕ) (placed : IsOrderOf (length es) order) where
    pub within_more : AreWithin (length new) order
    within_more p some = let l = order_within (length es) order placed p some in let n = length_more in omega (arith, l, n)

    pub falls_more : IsFallingAlong (subtables es) order → IsFallingAlong (subtables new) order
    falls_more falling =
        subst (λ (ss : List Subtable). IsFallingAlong ss order) (sym subtables_more)
        (falling_end (subtables es) order t (λ p some. let l = order_within (length es) order placed p some in let n = length-subtables es in omega (arith, l, n)) falling)

    pub order_entered : (order' : List ℕ) (place : ℕ) → place ≡ length es → ((p : ℕ) → times p order' ≡ times p order + one_if place p) → IsOrderOf (length new) order'
    order_entered order' place last more =
        subst (λ (n : ℕ). IsOrderOf n order') (sym length_more)
        (order_more (length es) order order' placed (λ p. more p ∙ ap (λ (n : ℕ). times p order + one_if n p) last))

-- ---- a mask less, whose place the last one takes

-- what was taken out at a place
pub swapped_out : (es new : Entries) (place : ℕ) (r : Option (Mask × Subtable)) → place < length es → r ≡ slice_get es place → IfSome r (λ e. new ≡ swap_remove es place e) → (e : Mask × Subtable) × (new ≡ swap_remove es place e)
swapped_out es new place None within is out = let e = there es place within in absurd (none-some e.0 (is ∙ e.1))
swapped_out es new place (Some e) within is out = (e, out)

module _ (es new : Entries) (place : ℕ) (d : Mask × Subtable) (within : place < length es) (out : new ≡ swap_remove es place d) where
  pub length_less : length new ≡ length es - 1
  length_less =
      let left = ap length out in
      let cut = length-take (length es - 1) (set es place (get_or es (length es - 1) d)) in
      let long = length-set es place (get_or es (length es - 1) d) in
      omega (arith, left, cut, long)

  pub keyed_less : AreKeyed es → AreKeyed new
  keyed_less keyed = subst AreKeyed (sym out) (keyed_swapped es place d within keyed)

  subtables_less : subtables new ≡ swap_remove (subtables es) place d.1
  subtables_less = ap subtables out ∙ subtables_swapped es place d within

  pub rules_less : (rs : List Rule) → AreSubtablesOf (subtables es) rs → ((s : Subtable) → slice_get (subtables es) place ≡ Some s → of_mask (bits s.staged.mask) rs ≡ []) → AreSubtablesOf (subtables new) rs
  rules_less rs are none =
      let s = subtable_at es place within in
      subst (λ (ss : List Subtable). AreSubtablesOf ss rs) (sym subtables_less) (drop_mask (subtables es) rs place s.0 d.1 are s.1 (none s.0 s.1))

  pub falls_less : (order : List ℕ) → IsFallingAlong (swap_remove (subtables es) place d.1) order → IsFallingAlong (subtables new) order
  falls_less order falling = subst (λ (ss : List Subtable). IsFallingAlong ss order) (sym subtables_less) falling
