-- The masks in their order: which they are, and the hits of each after a change.
use Rattle.std.proofs.Common.{◌≡◌, ℕ, ◌&&◌, Bool, true, false, cond, List, [], ◌∷◌, Option, Some, None, refl, sym, ap, subst, ◌∙◌, inl, inr}
use Rattle.std.specs.Prelude.{is_some, IsSome}
use Rattle.std.specs.Option.{option_map, option_and_then, unwrap_or}
use Rattle.std.specs.HashMap.{WritesThrough}
use Rattle.std.specs.Map.{lookup, values_of}
use Rattle.std.proofs.lemmas.Bool.{cases_Bool, and_from, cond-true, cond-false, false≢true}
use Rattle.std.proofs.lemmas.Option.{none-some}
use Rattle.masked_map.specs.Maps.{entries_of}
use Rattle.spec_keys.specs.Keys.{same}
use Rattle.ovs_fields.specs.Equality.{equal_from_same, same_from_equal}
use Rattle.ovs_fields.specs.declared.mask.Mask.{Mask}
use Rattle.ovs_fields.specs.Packed.{bits}
use Rattle.megaflow_table.specs.declared.entry.Entry.{Entry}
use Rattle.megaflow_table.specs.declared.megaflows.Megaflows.TheInside.{Inside}
use Rattle.megaflow_table.specs.Entries.{has_mask}
use Rattle.megaflow_table.specs.Order.{Order, hits_of, with_hit, AreFalling, HasMasksOf, CountsHit, AddsMask, KeepsMasksOf, KeepsHits}
use Rattle.megaflow_table.specs.Subtables.{Subtable, Subtables, number_in, subtable_of, number_under, ranks, order_of, ChangesOnly, HasNumberUnder, HasNumbers, IsRanked, KeepsRoom, KeepsNumbers}
use Rattle.megaflow_table.specs.Parts.{IsTable, masked_key, look_in, entries_by}
use Rattle.megaflow_table.proofs.EntryLaws.{any_one, none_any}
use Rattle.megaflow_table.proofs.RankLaws.{hits-ranks, ranks-set_value}

some_from : {A : Type 0} (o : Option A) → is_some o ≡ true → (x : A) × (o ≡ Some x)
some_from None none = absurd (false≢true none)
some_from (Some x) some = (x, refl)

pub none_from : {A : Type 0} (o : Option A) → is_some o ≡ false → o ≡ None
none_from None none = refl
none_from (Some x) some = absurd (false≢true (sym some))

is_some-map : {A B : Type 0} (f : A → B) (o : Option A) → is_some (option_map f o) ≡ is_some o
is_some-map f None = refl
is_some-map f (Some x) = refl

-- a mask has hits where it has a subtable
pub hits-found : (subtables : Subtables) (m : List ℕ) → is_some (hits_of m (order_of subtables)) ≡ is_some (subtable_of subtables m)
hits-found subtables m = ap is_some (hits-ranks m subtables.entries) ∙ is_some-map (λ (s : Subtable). s.hits) (subtable_of subtables m)

-- ---- which masks

pub has_masks : (a : Inside) → IsTable a → HasMasksOf (entries_by (look_in a) a.live.items) (order_of a.subtables)
has_masks a table m = hits-found a.subtables m ∙ by (subtable_of a.subtables m) refl
  where
    by : (o : Option Subtable) → subtable_of a.subtables m ≡ o → is_some o ≡ has_mask m (entries_by (look_in a) a.live.items)
    by (Some s) at =
        let there = table.used m (ap is_some at) in
        let it = table.consistent.named m there.0 there.1 there.2 in
        sym (any_one (look_in a) (λ (e : Entry). same m (bits e.mask)) a.live.items table.consistent.found there.1 it.0 it.1 (table.consistent.within there.1 it.0 it.1)
        (same_from_equal m (bits it.0.mask) (sym it.2)))
    by None at = sym (none_any (look_in a) (λ (e : Entry). same m (bits e.mask)) a.live.items table.consistent.found misses)
      where
        misses : (n : ℕ) (e : Entry) → look_in a n ≡ Some e → same m (bits e.mask) ≡ false
        misses n e is =
            elim (cases_Bool (same m (bits e.mask))) [
              | inl holds ↦
                  absurd (none-some n
                  (sym (ap (option_and_then (λ (s : Subtable). number_in s (masked_key e))) (ap (subtable_of a.subtables) (sym (equal_from_same m (bits e.mask) holds)) ∙ at))
                  ∙ table.consistent.indexed n e is))
              | inr other ↦ other
            ]

-- the masks of the entries that are left keep their hits, and the others are gone
pub kept_masks : (a : Inside) → IsTable a → (old : Order) → KeepsHits old (order_of a.subtables) → KeepsMasksOf (entries_by (look_in a) a.live.items) old (order_of a.subtables)
kept_masks a table old kept m =
    elim (cases_Bool (has_mask m entries)) [
      | inl there ↦ kept m (has_masks a table m ∙ there) ∙ sym (cond-true (has_mask m entries) (hits_of m old) None there)
      | inr gone ↦ none_from (hits_of m (order_of a.subtables)) (has_masks a table m ∙ gone) ∙ sym (cond-false (has_mask m entries) (hits_of m old) None gone)
    ]
  where
    entries : List Entry
    entries = entries_by (look_in a) a.live.items

-- ---- no subtable is empty

pub kept_used : (old new : Subtables) → KeepsNumbers old new → HasNumbers old → HasNumbers new
kept_used old new keeps used m some =
    let here = some_from (subtable_of new m) some in
    let was = keeps.room.within m here.0 here.1 in
    let there = used m (ap is_some was.1) in
    (there.0, there.1, keeps.numbers m there.0 ∙ there.2)

-- the subtables but one
pub others_used : (old new : Subtables) (mask key : List ℕ) (number : Option ℕ) → ChangesOnly old new mask key number → HasNumbers old → (m : List ℕ) → same m mask ≡ false
    → IsSome (subtable_of old m) → (k : List ℕ) × (n : ℕ) × (number_under new m k ≡ Some n)
others_used old new mask key number changes used m other some =
    let there = used m some in (
      there.0,
      there.1,
      changes m there.0
          ∙ ap (λ (b : Bool). cond (b && same there.0 key) number (number_under old m there.0)) other
          ∙ there.2,
    )

pub added_used : (old new : Subtables) (mask key : List ℕ) (n : ℕ) → ChangesOnly old new mask key (Some n) → AddsMask mask (order_of old) (order_of new) → HasNumbers old → HasNumbers new
added_used old new mask key n changes adds used m some =
    elim (cases_Bool (same m mask)) [
      | inl here ↦ (
        key,
        n,
        changes m key ∙ cond-true (same m mask && same key key) (Some n) (number_under old m key) (and_from (same m mask) (same key key) here (same_from_equal key key refl)),
      )
      | inr other ↦
          others_used old new mask key (Some n) changes used m other
          (sym (hits-found old m)
          ∙ ap is_some (sym (adds m ∙ cond-false (same m mask) (Some (unwrap_or (hits_of m (order_of old)) 0)) (hits_of m (order_of old)) other))
          ∙ hits-found new m ∙ some)
    ]

pub removed_used : (old new : Subtables) (mask key : List ℕ) → ChangesOnly old new mask key None → KeepsRoom old new → HasNumbers old → HasNumberUnder new mask → HasNumbers new
removed_used old new mask key changes room used here m some =
    elim (cases_Bool (same m mask)) [
      | inl is ↦
          let equal : m ≡ mask = equal_from_same m mask is in
          subst (HasNumberUnder new) (sym equal) here some
      | inr other ↦
          let there = some_from (subtable_of new m) some in
          others_used old new mask key None changes used m other (ap is_some (room.within m there.0 there.1).1)
    ]

-- where a subtable that is not empty stands
pub in_use : (subtables : Subtables) (mask : List ℕ) (subtable : Subtable) (e : List ℕ × ℕ) (es : List (List ℕ × ℕ)) → subtable_of subtables mask ≡ Some subtable → entries_of subtable.numbers ≡ e ∷ es → HasNumberUnder subtables mask
in_use subtables mask subtable e es at entries some = (
  e.0,
  e.1,
  ap (option_and_then (λ (s : Subtable). number_in s e.0)) at
      ∙ ap (λ (fs : List (List ℕ × ℕ)). lookup (same e.0) fs) entries
      ∙ cond-true (same e.0 e.0) (Some e.1) (lookup (same e.0) es) (same_from_equal e.0 e.0 refl),
)

-- a list that is not empty has a first
pub first_of : (es : List (List ℕ × ℕ)) (empty : Bool) → (es ≡ [] → empty ≡ true) → empty ≡ false → (e : List ℕ × ℕ) × (rest : List (List ℕ × ℕ)) × (es ≡ e ∷ rest)
first_of [] empty says not_empty = absurd (false≢true (sym not_empty ∙ says refl))
first_of (e ∷ es) empty says not_empty = (e, es, refl)

-- where no subtable is, none is empty
pub none_in_use : (subtables : Subtables) (mask : List ℕ) → subtable_of subtables mask ≡ None → HasNumberUnder subtables mask
none_in_use subtables mask none some = absurd (false≢true (sym (ap is_some none) ∙ some))

-- ---- hits

-- what is put for a mask
pub hits_put : (old new : Subtables) (mask : List ℕ) (o : Option Subtable) → ((m : List ℕ) → subtable_of new m ≡ cond (same m mask) o (subtable_of old m))
    → (m : List ℕ) → hits_of m (order_of new) ≡ cond (same m mask) (option_map (λ (s : Subtable). s.hits) o) (hits_of m (order_of old))
hits_put old new mask o put m = hits-ranks m new.entries ∙ ap (option_map (λ (s : Subtable). s.hits)) (put m) ∙ by (same m mask)
  where
    by : (b : Bool) → option_map (λ (s : Subtable). s.hits) (cond b o (subtable_of old m)) ≡ cond b (option_map (λ (s : Subtable). s.hits) o) (hits_of m (order_of old))
    by true = refl
    by false = sym (hits-ranks m old.entries)

pub same_hits : (old new : Subtables) → ((m : List ℕ) → subtable_of new m ≡ subtable_of old m) → (m : List ℕ) → hits_of m (order_of new) ≡ hits_of m (order_of old)
same_hits old new found m = hits-ranks m new.entries ∙ ap (option_map (λ (s : Subtable). s.hits)) (found m) ∙ sym (hits-ranks m old.entries)

-- a number for each list, at one and at the others
put_at : (mask : List ℕ) (f g : List ℕ → Option ℕ) (v : Option ℕ) → f mask ≡ v → (m : List ℕ) → cond (same m mask) v (g m) ≡ cond (same m mask) (f m) (g m)
put_at mask f g v at m =
    elim (cases_Bool (same m mask)) [
      | inl is ↦
          cond-true (same m mask) v (g m) is ∙ sym at ∙ ap f (sym (equal_from_same m mask is)) ∙ sym (cond-true (same m mask) (f m) (g m) is)
      | inr other ↦ cond-false (same m mask) v (g m) other ∙ sym (cond-false (same m mask) (f m) (g m) other)
    ]

-- a subtable with as many hits as the mask had, or with none where it had none
pub put_adds : (old new : Subtables) (mask : List ℕ) (after : Subtable) → ((m : List ℕ) → subtable_of new m ≡ cond (same m mask) (Some after) (subtable_of old m))
    → unwrap_or (hits_of mask (order_of old)) 0 ≡ after.hits → AddsMask mask (order_of old) (order_of new)
put_adds old new mask after put hits m =
    hits_put old new mask (Some after) put m
    ∙ put_at mask (λ l. Some (unwrap_or (hits_of l (order_of old)) 0)) (λ l. hits_of l (order_of old)) (Some after.hits) (ap (λ (n : ℕ). Some n) hits) m

-- the hits of the mask of a subtable that is found
pub hits_found : (old : Subtables) (mask : List ℕ) (o : Option Subtable) → subtable_of old mask ≡ o → hits_of mask (order_of old) ≡ option_map (λ (s : Subtable). s.hits) o
hits_found old mask o at = hits-ranks mask old.entries ∙ ap (option_map (λ (s : Subtable). s.hits)) at

pub put_counts : (old new : Subtables) (mask : List ℕ) (before after : Subtable) → subtable_of old mask ≡ Some before → after.hits ≡ with_hit before.hits
    → ((m : List ℕ) → subtable_of new m ≡ cond (same m mask) (Some after) (subtable_of old m)) → CountsHit mask (order_of old) (order_of new)
put_counts old new mask before after at hits put m =
    hits_put old new mask (Some after) put m
    ∙ put_at mask (λ l. option_map with_hit (hits_of l (order_of old))) (λ l. hits_of l (order_of old)) (Some after.hits)
    (ap (option_map with_hit) (hits_found old mask (Some before) at) ∙ ap (λ (n : ℕ). Some n) (sym hits)) m

-- a mask without a subtable has no hits to count
pub none_counted : (old : Subtables) (mask : List ℕ) → subtable_of old mask ≡ None → CountsHit mask (order_of old) (order_of old)
none_counted old mask none m =
    elim (cases_Bool (same m mask)) [
      | inl is ↦
          let nothing : hits_of m (order_of old) ≡ None = ap (λ (l : List ℕ). hits_of l (order_of old)) (equal_from_same m mask is) ∙ hits_found old mask None none in
          nothing ∙ sym (ap (option_map with_hit) nothing) ∙ sym (cond-true (same m mask) (option_map with_hit (hits_of m (order_of old))) (hits_of m (order_of old)) is)
      | inr other ↦ sym (cond-false (same m mask) (option_map with_hit (hits_of m (order_of old))) (hits_of m (order_of old)) other)
    ]

-- a mask is gone, and the hits of the others stay
pub gone_kept : (old mid new : Subtables) (mask : List ℕ) → order_of mid ≡ order_of old → ((m : List ℕ) → subtable_of new m ≡ cond (same m mask) None (subtable_of mid m)) → KeepsHits (order_of old) (order_of new)
gone_kept old mid new mask order gone m some =
    elim (cases_Bool (same m mask)) [
      | inl is ↦ absurd (false≢true (sym (ap is_some (hits_put mid new mask None gone m ∙ cond-true (same m mask) None (hits_of m (order_of mid)) is)) ∙ some))
      | inr other ↦ hits_put mid new mask None gone m ∙ cond-false (same m mask) None (hits_of m (order_of mid)) other ∙ ap (hits_of m) order
    ]

-- a write through what was lent for a mask, which leaves its hits
pub written_order : (old new : Subtables) (mask : Mask) (before after : Subtable) → subtable_of old (bits mask) ≡ Some before
    → WritesThrough (λ (a b : Mask). same (bits a) (bits b)) (λ (r : Mask). same (bits mask) (bits r)) old after new → after.hits ≡ before.hits → order_of new ≡ order_of old
written_order old new mask before after at writes hits = ap ranks writes.0 ∙ ranks-set_value (λ (r : Mask). same (bits mask) (bits r)) old.entries before after at hits

pub same_ranked : (old new : Subtables) → order_of new ≡ order_of old → IsRanked old → IsRanked new
same_ranked old new order ranked = subst (λ (o : Order). AreFalling (values_of o)) (sym order) ranked
