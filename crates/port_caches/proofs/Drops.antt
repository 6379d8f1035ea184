-- Entries that are paid and dropped one after the other are paid and dropped together.
use Rattle.std.proofs.Common.{◌≡◌, ℕ, ◌+◌, ◌<◌, ◌≤◌, Bool, true, false, cond, ◌||◌, ◌==◌, List, [], ◌∷◌, map, Option, Some, None, inl, inr, refl, sym, ap, ap₂, subst, ◌∙◌, drop, length, get_or, add-one, drop-cons, arith}
use Rattle.std.specs.Prelude.{filter, ◌≢◌, not}
use Rattle.std.proofs.lemmas.Bool.{cond-true, cond-false, eq-eqb, ne_eqb, not_from_true, not_from_false}
use Rattle.table_laws.proofs.MemberLaws.{Among}
use Rattle.spec_board.specs.State.{Total}
use Rattle.port_caches.specs.Sums.{IsCountable}
use Rattle.spec_board.specs.Effects.{credited, credited_by, is_among}
use Rattle.megaflow_table.specs.declared.entry.Entry.{Entry}
use Rattle.megaflow_table.specs.Entries.{ForEntry, entry_of, without, numbers_of}
use Rattle.port_caches.specs.declared.lists.HeldList.{HeldList}
use Rattle.port_caches.specs.Views.{entry_view}
use Rattle.port_caches.specs.Drops.{ArePayable, credited_with, entries_after, totals_after}
use Rattle.port_caches.specs.Kept.{AreKept, IsApart}
use Rattle.port_caches.specs.Steps.{AreRules}
use Rattle.port_caches.proofs.ListLaws.{among-filter, among-map}
use Rattle.port_caches.proofs.Kept.{apart_at, kept_at, same_entry}

-- ---- an entry that is not among the dropped

-- none of the numbers is that of an entry
abbrev Misses : List ℕ → Entry → Type 0
Misses numbers e = (n : ℕ) → Among n numbers → e.number ≢ n

module _ (e : Entry) where
  entry_of-behind : (n : ℕ) (es : List Entry) → e.number ≢ n → entry_of n (e ∷ es) ≡ entry_of n es
  entry_of-behind n es other = cond-false (e.number == n) (Some e) (entry_of n es) (ne_eqb e.number n other)

  without-behind : (n : ℕ) (es : List Entry) → e.number ≢ n → without n (e ∷ es) ≡ e ∷ without n es
  without-behind n es other = cond-true (not (e.number == n)) (e ∷ without n es) (without n es) (not_from_false (e.number == n) (ne_eqb e.number n other))

  entries-behind : (numbers : List ℕ) (es : List Entry) → Misses numbers e → entries_after numbers (e ∷ es) ≡ e ∷ entries_after numbers es
  entries-behind [] es misses = refl
  entries-behind (n ∷ numbers) es misses =
      ap (entries_after numbers) (without-behind n es (misses n (inl refl))) ∙ entries-behind numbers (without n es) (λ m is. misses m (inr is))

  totals-behind : (numbers : List ℕ) (es : List Entry) (totals : ℕ → Total) → Misses numbers e → totals_after numbers (e ∷ es) totals ≡ totals_after numbers es totals
  totals-behind [] es totals misses = refl
  totals-behind (n ∷ numbers) es totals misses =
      let other = misses n (inl refl) in
      ap₂ (λ (xs : List Entry) (o : Option Entry). totals_after numbers xs (credited_with o totals)) (without-behind n es other) (entry_of-behind n es other)
      ∙ totals-behind numbers (without n es) (credited_with (entry_of n es) totals) (λ m is. misses m (inr is))

  payable-behind : (rules : ℕ) (numbers : List ℕ) (es : List Entry) → Misses numbers e → ArePayable rules numbers es → ArePayable rules numbers (e ∷ es)
  payable-behind rules [] es misses payable = tt
  payable-behind rules (n ∷ numbers) es misses payable =
      let other = misses n (inl refl) in (
        (payable.0.0, entry_of-behind n es other ∙ payable.0.1, payable.0.2),
        subst (ArePayable rules numbers) (sym (without-behind n es other)) (payable-behind rules numbers (without n es) (λ m is. misses m (inr is)) payable.1),
      )

-- ---- an entry that is dropped first

without-here : (e : Entry) (es : List Entry) → IsApart e es → without e.number (e ∷ es) ≡ es
without-here e es apart =
    cond-false (not (e.number == e.number)) (e ∷ without e.number es) (without e.number es) (not_from_true (e.number == e.number) (eq-eqb e.number e.number refl))
    ∙ stay es apart
  where
    stay : (ds : List Entry) → IsApart e ds → without e.number ds ≡ ds
    stay [] from = refl
    stay (d ∷ ds) from =
        cond-true (not (d.number == e.number)) (d ∷ without e.number ds) (without e.number ds) (not_from_false (d.number == e.number) (ne_eqb d.number e.number (λ same. from.0 (sym same))))
        ∙ ap (λ xs. d ∷ xs) (stay ds from.2)

entry_of-here : (e : Entry) (es : List Entry) → entry_of e.number (e ∷ es) ≡ Some e
entry_of-here e es = cond-true (e.number == e.number) (Some e) (entry_of e.number es) (eq-eqb e.number e.number refl)

-- ---- those that pass a test

module _ (lists made rules : ℕ) (p : Entry → Bool) where
  misses : (e : Entry) (es : List Entry) → IsApart e es → Misses (numbers_of (filter p es)) e
  misses e es apart n m =
      let there = among-map (λ (d : Entry). d.number) (filter p es) n m in
      λ same. (apart_at e es there.0 apart (among-filter p es there.0 there.1).0).0 (same ∙ there.2)

  pub entries_after-filter : (es : List Entry) → AreKept lists made rules es → entries_after (numbers_of (filter p es)) es ≡ filter (λ e. not (p e)) es
  entries_after-filter [] kept = refl
  entries_after-filter (e ∷ es) kept = at (p e) (entries_after-filter es kept.2)
    where
      at : (t : Bool) → entries_after (numbers_of (filter p es)) es ≡ filter (λ d. not (p d)) es
          → entries_after (numbers_of (cond t (e ∷ filter p es) (filter p es))) (e ∷ es) ≡ cond (not t) (e ∷ filter (λ d. not (p d)) es) (filter (λ d. not (p d)) es)
      at true ih = ap (entries_after (numbers_of (filter p es))) (without-here e es kept.1) ∙ ih
      at false ih = entries-behind e (numbers_of (filter p es)) es (misses e es kept.1) ∙ ap (λ xs. e ∷ xs) ih

  pub totals_after-filter : (held : List HeldList) (es : List Entry) (totals : ℕ → Total) → AreKept lists made rules es
      → totals_after (numbers_of (filter p es)) es totals ≡ credited_by (map (entry_view held) (filter p es)) totals
  unfolding credited_by
  totals_after-filter held [] totals kept = refl
  totals_after-filter held (e ∷ es) totals kept = at (p e) (λ ts. totals_after-filter held es ts kept.2)
    where
      at : (t : Bool) → ((ts : ℕ → Total) → totals_after (numbers_of (filter p es)) es ts ≡ credited_by (map (entry_view held) (filter p es)) ts)
          → totals_after (numbers_of (cond t (e ∷ filter p es) (filter p es))) (e ∷ es) totals ≡ credited_by (map (entry_view held) (cond t (e ∷ filter p es) (filter p es))) totals
      at true ih =
          ap₂ (λ (xs : List Entry) (o : Option Entry). totals_after (numbers_of (filter p es)) xs (credited_with o totals)) (without-here e es kept.1) (entry_of-here e es)
          ∙ ih (credited e.visits e.owed_packets e.owed_bytes totals)
      at false ih = totals-behind e (numbers_of (filter p es)) es totals (misses e es kept.1) ∙ ih totals

  pub payable-filter : (es : List Entry) → AreKept lists made rules es → ArePayable rules (numbers_of (filter p es)) es
  payable-filter [] kept = tt
  payable-filter (e ∷ es) kept = at (p e) (payable-filter es kept.2)
    where
      at : (t : Bool) → ArePayable rules (numbers_of (filter p es)) es → ArePayable rules (numbers_of (cond t (e ∷ filter p es) (filter p es))) (e ∷ es)
      at true ih = ((e, entry_of-here e es, (kept_at lists made rules (e ∷ es) e kept (inl refl)).visits), subst (ArePayable rules (numbers_of (filter p es))) (sym (without-here e es kept.1)) ih)
      at false ih = payable-behind e rules (numbers_of (filter p es)) es (misses e es kept.1) ih

  -- what passes is exactly what has one of their numbers
  pub among_numbers : (es : List Entry) (e : Entry) → AreKept lists made rules es → Among e es → is_among (numbers_of (filter p es)) e.number ≡ p e
  among_numbers es e kept m = at (p e) refl
    where
      listed : (xs : List Entry) → Among e xs → is_among (numbers_of xs) e.number ≡ true
      listed [] none = absurd none
      listed (x ∷ xs) (inl first) = ap (λ t. t || is_among (numbers_of xs) e.number) (eq-eqb x.number e.number (ap (λ (y : Entry). y.number) (sym first)))
      listed (x ∷ xs) (inr rest) = either (x.number == e.number) (listed xs rest)
        where
          either : (t : Bool) → is_among (numbers_of xs) e.number ≡ true → (t || is_among (numbers_of xs) e.number) ≡ true
          either true is = refl
          either false is = is

      unlisted : (xs : List Entry) → ((x : Entry) → Among x xs → x.number ≢ e.number) → is_among (numbers_of xs) e.number ≡ false
      unlisted [] others = refl
      unlisted (x ∷ xs) others = ap (λ t. t || is_among (numbers_of xs) e.number) (ne_eqb x.number e.number (others x (inl refl))) ∙ unlisted xs (λ y n. others y (inr n))

      at : (t : Bool) → p e ≡ t → is_among (numbers_of (filter p es)) e.number ≡ t
      at true passes = listed (filter p es) (in_filter es m)
        where
          in_filter : (xs : List Entry) → Among e xs → Among e (filter p xs)
          in_filter [] none = absurd none
          in_filter (x ∷ xs) (inl first) = subst (λ t. Among e (cond t (x ∷ filter p xs) (filter p xs))) (sym (ap p (sym first) ∙ passes)) (inl first)
          in_filter (x ∷ xs) (inr rest) = longer (p x) (in_filter xs rest)
            where
              longer : (t : Bool) → Among e (filter p xs) → Among e (cond t (x ∷ filter p xs) (filter p xs))
              longer true n = inr n
              longer false n = n
      at false fails = unlisted (filter p es) (λ x n same.
          let there = among-filter p es x n in
          let f : true ≡ false = sym there.1 ∙ ap p (same_entry lists made rules es x e kept there.0 m same) ∙ fails in
          absurd (cc f))

-- ---- totals only grow

grown : (e : Option Entry) (totals : ℕ → Total) (rule : ℕ) → ((totals rule).packets ≤ (credited_with e totals rule).packets) × ((totals rule).bytes ≤ (credited_with e totals rule).bytes)
grown None totals rule = (omega arith, omega arith)
grown (Some e) totals rule = (omega arith, omega arith)

pub totals_grow : (numbers : List ℕ) (es : List Entry) (totals : ℕ → Total) (rule : ℕ)
    → ((totals rule).packets ≤ (totals_after numbers es totals rule).packets) × ((totals rule).bytes ≤ (totals_after numbers es totals rule).bytes)
totals_grow [] es totals rule = (omega arith, omega arith)
totals_grow (n ∷ numbers) es totals rule =
    let first = grown (entry_of n es) totals rule in
    let rest = totals_grow numbers (without n es) (credited_with (entry_of n es) totals) rule in
    (omega (arith, first.0, rest.0), omega (arith, first.1, rest.1))

-- ---- the next of the numbers

module _ (numbers : List ℕ) (i : ℕ) (within : i < length numbers) (es : List Entry) where
  next : drop i numbers ≡ get_or numbers i 0 ∷ drop (i + 1) numbers
  next = rw (add-one, drop-cons numbers i 0)

  pub payable_next : (rules : ℕ) → ArePayable rules (drop i numbers) es
      → ForEntry (get_or numbers i 0) es (λ e. AreRules rules e.visits) × ArePayable rules (drop (i + 1) numbers) (without (get_or numbers i 0) es)
  payable_next rules payable = subst (λ ns. ArePayable rules ns es) next payable

  pub entries_next : entries_after (drop i numbers) es ≡ entries_after (drop (i + 1) numbers) (without (get_or numbers i 0) es)
  entries_next = ap (λ ns. entries_after ns es) next

  pub totals_next : (totals : ℕ → Total) → totals_after (drop i numbers) es totals
      ≡ totals_after (drop (i + 1) numbers) (without (get_or numbers i 0) es) (credited_with (entry_of (get_or numbers i 0) es) totals)
  totals_next totals = ap (λ ns. totals_after ns es totals) next

  pub countable_next : (totals : ℕ → Total) (rule : ℕ) → IsCountable (totals_after (drop i numbers) es totals rule)
      → IsCountable (credited_with (entry_of (get_or numbers i 0) es) totals rule)
  countable_next totals rule fits =
      let after = credited_with (entry_of (get_or numbers i 0) es) totals in
      let more = totals_grow (drop (i + 1) numbers) (without (get_or numbers i 0) es) after rule in
      let all : IsCountable (totals_after (drop (i + 1) numbers) (without (get_or numbers i 0) es) after rule) = subst (λ (ts : ℕ → Total). IsCountable (ts rule)) (totals_next totals) fits in
      record { packets = omega (arith, more.0, all.packets); bytes = omega (arith, more.1, all.bytes) }
