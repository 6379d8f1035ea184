-- Subtables in the order of their hits.
use Rattle.std.proofs.Common.{◌≡◌, ℕ, zero, suc, ◌+◌, ◌<◌, ◌≤◌, Bool, true, false, cond, List, [], ◌∷◌, ◌++◌, length, get_or, set, Option, Some, None, refl, sym, ap, ap₂, subst, ◌∙◌, ◌⊎◌, inl, inr, arith}
use Rattle.std.specs.Prelude.{slice_get, nat_lt}
use Rattle.std.specs.Borrow.{Bor}
use Rattle.std.specs.Fn.{Mut, Called}
use Rattle.std.specs.List.{swap, IsDistinct, AllByRecursion}
use Rattle.std.specs.List.Sorted.{IsPartitionedBy, IsPartitionPoint}
use Rattle.std.specs.Map.{lookup, remove_entry, set_value, keys_of, values_of}
use Rattle.std.specs.Option.{option_map}
use Rattle.std.proofs.lemmas.Bool.{cases_eq, cases_lt, lt-ltb, ltb-true, ltb-false}
use Rattle.std.proofs.lemmas.Fn.{always_returns_same}
use Rattle.std.proofs.lemmas.List.Edits.{swapped_from_swap, length-swap}
use Rattle.std.proofs.lemmas.Map.Entries.{place_from_lookup}
use Rattle.std.proofs.lemmas.Option.{none-some, same_Some}
use Rattle.std.proofs.lemmas.List.{get_or-set_same, get_or-set_other}
use Rattle.std.proofs.Math.ListN.{length-set}
use Rattle.indexmap.specs.Calls.{ComputesOnEntry}
use Rattle.indexmap.specs.Layout.{set_value_at}
use Rattle.spec_keys.specs.Keys.{same}
use Rattle.ovs_fields.specs.Equality.{equal_from_same}
use Rattle.ovs_fields.specs.declared.mask.Mask.{Mask}
use Rattle.ovs_fields.specs.Packed.{bits}
use Rattle.megaflow_table.specs.Order.{hits_of, AreFalling, HasEachOnce}
use Rattle.megaflow_table.specs.Subtables.{Subtable, ranks}

abbrev pub counts : List (Mask × Subtable) → List ℕ
counts es = values_of (ranks es)

-- ---- the hits of a mask are those of its subtable

pub hits-ranks : (m : List ℕ) (es : List (Mask × Subtable)) → hits_of m (ranks es) ≡ option_map (λ (s : Subtable). s.hits) (lookup (λ (k : Mask). same m (bits k)) es)
hits-ranks m [] = refl
hits-ranks m (t ∷ es) = by (same m (bits t.0)) (hits-ranks m es)
  where
    by : (b : Bool) → hits_of m (ranks es) ≡ option_map (λ (s : Subtable). s.hits) (lookup (λ (k : Mask). same m (bits k)) es)
        → cond b (Some t.1.hits) (hits_of m (ranks es)) ≡ option_map (λ (s : Subtable). s.hits) (cond b (Some t.1) (lookup (λ (k : Mask). same m (bits k)) es))
    by true rest = refl
    by false rest = rest

pub once-ranks : (es : List (Mask × Subtable)) → IsDistinct (λ (a b : Mask). same (bits a) (bits b)) (keys_of es) → HasEachOnce (ranks es)
unfolding IsDistinct
once-ranks [] distinct = tt
once-ranks (t ∷ es) distinct = (others es distinct.0, once-ranks es distinct.1)
  where
    others : (fs : List (Mask × Subtable)) → AllByRecursion (λ (k : Mask). same (bits t.0) (bits k) ≡ false) (keys_of fs) → AllByRecursion (λ (k : List ℕ). same (bits t.0) k ≡ false) (keys_of (ranks fs))
    others [] all = tt
    others (u ∷ fs) all = (all.0, others fs all.1)

-- a value with as many hits in the place of another
pub ranks-set_value : (test : Mask → Bool) (es : List (Mask × Subtable)) (v w : Subtable) → lookup test es ≡ Some v → w.hits ≡ v.hits → ranks (set_value test es w) ≡ ranks es
ranks-set_value test [] v w at same_hits = refl
ranks-set_value test (t ∷ es) v w at same_hits = by (test t.0) at (ranks-set_value test es v w)
  where
    by : (b : Bool) → cond b (Some t.1) (lookup test es) ≡ Some v → (lookup test es ≡ Some v → w.hits ≡ v.hits → ranks (set_value test es w) ≡ ranks es)
        → ranks (cond b ((t.0, w) ∷ es) (t ∷ set_value test es w)) ≡ ranks (t ∷ es)
    by true here rest = λ i. (bits t.0, (same_hits ∙ ap (λ (s : Subtable). s.hits) (sym (same_Some t.1 v here))) i) ∷ ranks es
    by false later rest = ap (λ (r : List (List ℕ × ℕ)). (bits t.0, t.1.hits) ∷ r) (rest later same_hits)

-- the same at a place
pub ranks-set_value_at : (es : List (Mask × Subtable)) (i : ℕ) (t : Mask × Subtable) (w : Subtable) → slice_get es i ≡ Some t → w.hits ≡ t.1.hits → ranks (set_value_at es i w) ≡ ranks es
ranks-set_value_at [] i t w at same_hits = refl
ranks-set_value_at (u ∷ es) zero t w at same_hits = λ i. (bits u.0, (same_hits ∙ ap (λ (v : Mask × Subtable). v.1.hits) (sym (same_Some u t at))) i) ∷ ranks es
ranks-set_value_at (u ∷ es) (suc i) t w at same_hits = ap (λ (r : List (List ℕ × ℕ)). (bits u.0, u.1.hits) ∷ r) (ranks-set_value_at es i t w at same_hits)

-- what is found by keys is found by lists
pub reordered_at : (es fs : List (Mask × Subtable)) → ((q : Mask) → lookup (λ (k : Mask). same (bits q) (bits k)) fs ≡ lookup (λ (k : Mask). same (bits q) (bits k)) es)
    → (m : List ℕ) → lookup (λ (k : Mask). same m (bits k)) fs ≡ lookup (λ (k : Mask). same m (bits k)) es
reordered_at es fs alike m = by (lookup (λ (k : Mask). same m (bits k)) fs) (lookup (λ (k : Mask). same m (bits k)) es) refl refl
  where
    from : (gs : List (Mask × Subtable)) (s : Subtable) → lookup (λ (k : Mask). same m (bits k)) gs ≡ Some s → lookup (λ (k : Mask). same m (bits k)) fs ≡ lookup (λ (k : Mask). same m (bits k)) es
    from gs s at =
        let place = place_from_lookup (λ (k : Mask). same m (bits k)) gs s at in
        let equal : m ≡ bits place.1 = equal_from_same m (bits place.1) place.3 in
        subst (λ (l : List ℕ). lookup (λ (k : Mask). same l (bits k)) fs ≡ lookup (λ (k : Mask). same l (bits k)) es) (sym equal) (alike place.1)

    by : (o p : Option Subtable) → lookup (λ (k : Mask). same m (bits k)) fs ≡ o → lookup (λ (k : Mask). same m (bits k)) es ≡ p → lookup (λ (k : Mask). same m (bits k)) fs ≡ lookup (λ (k : Mask). same m (bits k)) es
    by (Some s) p at other = from fs s at
    by None (Some s) none at = from es s at
    by None None first second = first ∙ sym second

-- ---- numbers that fall

abbrev AreAtMost : ℕ → List ℕ → Type 0
AreAtMost n ns = (k : ℕ) → k < length ns → get_or ns k 0 ≤ n

falling_tail : (n : ℕ) (ns : List ℕ) → AreFalling (n ∷ ns) → AreFalling ns
falling_tail n ns falling i j le lt = falling (suc i) (suc j) (omega arith) (omega arith)

falling_head : (n : ℕ) (ns : List ℕ) → AreFalling (n ∷ ns) → AreAtMost n ns
falling_head n ns falling k lt = falling 0 (suc k) (omega arith) (omega arith)

falling_cons : (n : ℕ) (ns : List ℕ) → AreAtMost n ns → AreFalling ns → AreFalling (n ∷ ns)
falling_cons n ns most falling zero zero le lt = omega arith
falling_cons n ns most falling zero (suc j) le lt = most j (omega arith)
falling_cons n ns most falling (suc i) zero le lt = absurd (omega arith)
falling_cons n ns most falling (suc i) (suc j) le lt = falling i j (omega arith) (omega arith)

most_cons : (n m : ℕ) (ns : List ℕ) → m ≤ n → AreAtMost n ns → AreAtMost n (m ∷ ns)
most_cons n m ns le most zero lt = le
most_cons n m ns le most (suc k) lt = most k (omega arith)

-- ---- one subtable less

removed_most : (test : Mask → Bool) (n : ℕ) (es : List (Mask × Subtable)) → AreAtMost n (counts es) → AreAtMost n (counts (remove_entry test es))
removed_most test n [] most = most
removed_most test n (t ∷ es) most = by (test t.0) (removed_most test n es (λ k lt. most (suc k) (omega arith)))
  where
    by : (b : Bool) → AreAtMost n (counts (remove_entry test es)) → AreAtMost n (counts (cond b es (t ∷ remove_entry test es)))
    by true rest = λ k lt. most (suc k) (omega arith)
    by false rest = most_cons n t.1.hits (counts (remove_entry test es)) (most 0 (omega arith)) rest

pub removed_falling : (test : Mask → Bool) (es : List (Mask × Subtable)) → AreFalling (counts es) → AreFalling (counts (remove_entry test es))
removed_falling test [] falling = falling
removed_falling test (t ∷ es) falling = by (test t.0) (removed_falling test es (falling_tail t.1.hits (counts es) falling))
  where
    by : (b : Bool) → AreFalling (counts (remove_entry test es)) → AreFalling (counts (cond b es (t ∷ remove_entry test es)))
    by true rest = falling_tail t.1.hits (counts es) falling
    by false rest = falling_cons t.1.hits (counts (remove_entry test es)) (removed_most test t.1.hits es (falling_head t.1.hits (counts es) falling)) rest

-- ---- one subtable more, with no hits

added_most : (n : ℕ) (es : List (Mask × Subtable)) (u : Mask × Subtable) → u.1.hits ≡ 0 → AreAtMost n (counts es) → AreAtMost n (counts (es ++ u ∷ []))
added_most n [] u none most = most_cons n u.1.hits [] (omega (arith, none)) most
added_most n (t ∷ es) u none most = most_cons n t.1.hits (counts (es ++ u ∷ [])) (most 0 (omega arith)) (added_most n es u none (λ k lt. most (suc k) (omega arith)))

pub added_falling : (es : List (Mask × Subtable)) (u : Mask × Subtable) → u.1.hits ≡ 0 → AreFalling (counts es) → AreFalling (counts (es ++ u ∷ []))
added_falling [] u none falling = falling_cons u.1.hits [] (λ k lt. absurd (omega arith)) falling
added_falling (t ∷ es) u none falling =
    falling_cons t.1.hits (counts (es ++ u ∷ [])) (added_most t.1.hits es u none (falling_head t.1.hits (counts es) falling)) (added_falling es u none (falling_tail t.1.hits (counts es) falling))

-- ---- one more hit

pub counts-set_value_at : (es : List (Mask × Subtable)) (i : ℕ) (w : Subtable) → counts (set_value_at es i w) ≡ set (counts es) i w.hits
counts-set_value_at [] i w = refl
counts-set_value_at (t ∷ es) zero w = refl
counts-set_value_at (t ∷ es) (suc i) w = ap (λ (ns : List ℕ). t.1.hits ∷ ns) (counts-set_value_at es i w)

counts-set : (es : List (Mask × Subtable)) (i : ℕ) (u : Mask × Subtable) → counts (set es i u) ≡ set (counts es) i u.1.hits
counts-set [] i u = refl
counts-set (t ∷ es) zero u = refl
counts-set (t ∷ es) (suc i) u = ap (λ (ns : List ℕ). t.1.hits ∷ ns) (counts-set es i u)

pub counts-get : (es : List (Mask × Subtable)) (i : ℕ) (u : Mask × Subtable) → get_or (counts es) i u.1.hits ≡ (get_or es i u).1.hits
counts-get [] i u = refl
counts-get (t ∷ es) zero u = refl
counts-get (t ∷ es) (suc i) u = counts-get es i u

pub length-counts : (es : List (Mask × Subtable)) → length (counts es) ≡ length es
length-counts [] = refl
length-counts (t ∷ es) = ap suc (length-counts es)

pub counts-swap : (es : List (Mask × Subtable)) (i j : ℕ) → counts (swap es i j) ≡ swap (counts es) i j
counts-swap [] i j = refl
counts-swap (t ∷ es) i j =
    counts-set (set (t ∷ es) i (get_or (t ∷ es) j t)) j (get_or (t ∷ es) i t)
    ∙ ap (λ (ns : List ℕ). set ns j (get_or (t ∷ es) i t).1.hits) (counts-set (t ∷ es) i (get_or (t ∷ es) j t))
    ∙ ap₂ (λ (x y : ℕ). set (set (counts (t ∷ es)) i x) j y) (sym (counts-get (t ∷ es) j t)) (sym (counts-get (t ∷ es) i t))

-- the hits at a place
pub counts_at : (es : List (Mask × Subtable)) (i : ℕ) (t : Mask × Subtable) → slice_get es i ≡ Some t → get_or (counts es) i 0 ≡ t.1.hits
counts_at [] i t at = absurd (none-some t at)
counts_at (u ∷ es) zero t at = ap (λ (v : Mask × Subtable). v.1.hits) (same_Some u t at)
counts_at (u ∷ es) (suc i) t at = counts_at es i t at

-- at the first place of those with as many hits there is one more, and elsewhere what there was
hit_falling : (ns ms : List ℕ) (place first n : ℕ) → AreFalling ns → first ≤ place → place < length ns → length ms ≡ length ns
    → ((k : ℕ) → k < first → get_or ns place 0 < get_or ns k 0) → get_or ns first 0 ≡ get_or ns place 0
    → get_or ns place 0 ≤ n → n ≤ get_or ns place 0 + 1
    → get_or ms first 0 ≡ n → ((k : ℕ) → (k ≡ first → ⊥) → get_or ms k 0 ≡ get_or ns k 0) → AreFalling ms
hit_falling ns ms place first n falling at_most within long before equal least most here others i j le lt =
    elim (cases_eq i first) [
      | inl i_first ↦ elim (cases_eq j first) [
        | inl j_first ↦ let both : get_or ms i 0 ≡ get_or ms j 0 = ap (λ (k : ℕ). get_or ms k 0) (i_first ∙ sym j_first) in omega (arith, both)
        | inr j_other ↦
            let top : get_or ms i 0 ≡ n = ap (λ (k : ℕ). get_or ms k 0) i_first ∙ here in
            let below : get_or ns j 0 ≤ get_or ns first 0 = falling first j (omega (arith, i_first, le)) (omega (arith, lt, long)) in
            omega (arith, top, others j j_other, below, equal, least)
      ]
      | inr i_other ↦ elim (cases_eq j first) [
        | inl j_first ↦
            let bottom : get_or ms j 0 ≡ n = ap (λ (k : ℕ). get_or ms k 0) j_first ∙ here in
            let above : get_or ns place 0 < get_or ns i 0 = before i (omega (arith, j_first, le, i_other)) in
            omega (arith, bottom, others i i_other, above, most)
        | inr j_other ↦
            let below : get_or ns j 0 ≤ get_or ns i 0 = falling i j le (omega (arith, lt, long)) in
            omega (arith, others i i_other, others j j_other, below)
      ]
    ]

module _ (ns : List ℕ) (place first n : ℕ) (falling : AreFalling ns) (at_most : first ≤ place) (within : place < length ns)
    (before : (k : ℕ) → k < first → get_or ns place 0 < get_or ns k 0) (equal : get_or ns first 0 ≡ get_or ns place 0)
    (least : get_or ns place 0 ≤ n) (most : n ≤ get_or ns place 0 + 1) where
  -- where it stands first already
  pub hit_here : place ≤ first → AreFalling (set ns place n)
  hit_here le =
      let at : first ≡ place = omega (arith, at_most, le) in
      hit_falling ns (set ns place n) place first n falling at_most within (length-set ns place n) before equal least most
      (ap (λ (k : ℕ). get_or (set ns place n) k 0) at ∙ get_or-set_same ns place n 0 within)
      (λ k other. get_or-set_other ns place k n 0 (λ is. other (is ∙ sym at)))

  -- where it moves
  pub hit_moves : first < place → AreFalling (swap (set ns place n) first place)
  hit_moves lt =
      let ms = set ns place n in
      let long : length ms ≡ length ns = length-set ns place n in
      let moved = swapped_from_swap ms (swap ms first place) first place 0 (omega (arith, lt, within, long)) (omega (arith, within, long)) refl in
      hit_falling ns (swap ms first place) place first n falling at_most within (length-swap ms first place ∙ long) before equal least most
      (moved.0 ∙ get_or-set_same ns place n 0 within)
      (λ k other. elim (cases_eq k place) [
        | inl is ↦
            ap (λ (i : ℕ). get_or (swap ms first place) i 0) is ∙ moved.1
            ∙ get_or-set_other ns place first n 0 (λ same_place. omega (arith, lt, same_place))
            ∙ equal ∙ ap (λ (i : ℕ). get_or ns i 0) (sym is)
        | inr apart ↦ moved.2 k other apart ∙ get_or-set_other ns place k n 0 apart
      ])

-- ---- the first place with as many hits

-- from the clause `partitioned` of a map's `partition_point`, where each call gives p of the entry
pub partition-from_clause : {K V : Type 0} (p : K × V → Bool) → {F : Type 0} {g : Mut F (Bor K × (Bor V × Unit {0})) Bool} {f : F} (es : List (K × V)) (i : ℕ)
    → ((q : K × V → Bool) → ComputesOnEntry g q f → IsPartitionedBy q es → IsPartitionPoint (λ e. q e ≡ true) (λ e. q e ≡ false) es i)
    → IsPartitionedBy p es → ((a : Bor K × (Bor V × Unit {0})) (r : Bool) (f' : F) → Called g f a r f' → (r ≡ p (a.0.now, a.1.0.now)) × (f' ≡ f))
    → IsPartitionPoint (λ e. p e ≡ true) (λ e. p e ≡ false) es i
partition-from_clause p {g = g} {f = f} es i clause parted h = clause p (always_returns_same g (λ a r. r ≡ p (a.0.now, a.1.0.now)) f h) parted

-- whether a subtable has more hits
abbrev pub has_more : ℕ → Mask × Subtable → Bool
has_more hits t = nat_lt hits t.1.hits

get_counts : (es : List (Mask × Subtable)) (k : ℕ) (d : Mask × Subtable) → k < length es → get_or (counts es) k 0 ≡ (get_or es k d).1.hits
get_counts [] k d lt = absurd (omega arith)
get_counts (t ∷ es) zero d lt = refl
get_counts (t ∷ es) (suc k) d lt = get_counts es k d (omega arith)

pub parted : (hits : ℕ) (es : List (Mask × Subtable)) → AreFalling (counts es) → IsPartitionedBy (has_more hits) es
parted hits es falling i j d le lt more =
    let long = length-counts es in
    let below : get_or (counts es) j 0 ≤ get_or (counts es) i 0 = falling i j le (omega (arith, lt, long)) in
    let over : hits < (get_or es j d).1.hits = ltb-true hits (get_or es j d).1.hits more in
    lt-ltb hits (get_or es i d).1.hits (omega (arith, below, over, get_counts es j d lt, get_counts es i d (omega (arith, le, lt))))

-- What a search for the first place with as many hits as one answers.
pub record IsFirstEqual (ns : List ℕ) (place first : ℕ) : Type 0 where
  pub at_most : first ≤ place
  pub above : (k : ℕ) → k < first → get_or ns place 0 < get_or ns k 0
  pub equal : get_or ns first 0 ≡ get_or ns place 0

pub first_equal : (es : List (Mask × Subtable)) (place first hits : ℕ) → AreFalling (counts es) → place < length es → hits ≡ get_or (counts es) place 0 → first ≤ length es
    → IsPartitionPoint (λ (t : Mask × Subtable). has_more hits t ≡ true) (λ (t : Mask × Subtable). has_more hits t ≡ false) es first → IsFirstEqual (counts es) place first
first_equal [] place first hits falling within here fits halves = absurd (omega arith)
first_equal (t ∷ es) place first hits falling within here fits halves = by (cases_lt place first)
  where
    over : (k : ℕ) → k < first → hits < get_or (counts (t ∷ es)) k 0
    over k lt =
        let more : hits < (get_or (t ∷ es) k t).1.hits = ltb-true hits (get_or (t ∷ es) k t).1.hits (halves.0 k t (omega arith) lt) in
        omega (arith, more, get_counts (t ∷ es) k t (omega (arith, lt, fits)))

    by : (place < first) ⊎ (first ≤ place) → IsFirstEqual (counts (t ∷ es)) place first
    by (inl past) = let more = over place past in absurd (omega (arith, more, here))
    by (inr le) =
        let long = length-counts (t ∷ es) in
        let least : get_or (counts (t ∷ es)) place 0 ≤ get_or (counts (t ∷ es)) first 0 = falling first place le (omega (arith, within, long)) in
        let lt : first < length (t ∷ es) = omega (arith, le, within) in
        let most : (get_or (t ∷ es) first t).1.hits ≤ hits = ltb-false hits (get_or (t ∷ es) first t).1.hits (halves.1 first t (omega arith) lt) in
        record {
          at_most = le;
          above = λ k below. let more = over k below in omega (arith, more, here);
          equal = omega (arith, least, most, here, get_counts (t ∷ es) first t lt);
        }
