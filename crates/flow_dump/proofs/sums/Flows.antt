-- What megaflows owe, one after the other.
use Rattle.std.proofs.Common.{◌≡◌, ℕ, zero, suc, ◌+◌, ◌*◌, ◌<◌, ◌==◌, List, [], ◌∷◌, length, take, get_or, refl, sym, ap, subst, ◌∙◌, arith, Some, None}
use Rattle.std.specs.Prelude.{slice_get, All}
use Rattle.std.proofs.lemmas.Bool.{cond-true, cond-false, eq-eqb, ne_eqb}
use Rattle.std.proofs.lemmas.Option.{none-some, same_Some, slice_get-get_or}
use Rattle.std.proofs.lemmas.List.Sums.{sum_by_more, sum_by-take-le}
use Rattle.spec_board.specs.State.{Total}
use Rattle.spec_board.specs.Counts.{times_visited}
use Rattle.spec_board.specs.Effects.{credited}
use Rattle.megaflow_table.specs.declared.entry.Entry.{Entry}
use Rattle.megaflow_table.specs.Entries.{entry_of, numbers_of, AreRising}
use Rattle.std.proofs.lemmas.List.{get_or-map, length-map}
use Rattle.spec_run.specs.declared.rule_counts.RuleCounts.{RuleCounts}
use Rattle.port_caches.specs.Sums.{IsRule}
use Rattle.flow_dump.specs.Sums.{Fits, sum_view, sums_view, with_owed, owed_packets, owed_bytes}
use Rattle.port_caches.proofs.stats.Credits.{same_total}

-- entries whose numbers rise are found by them
found_at : (es : List Entry) (i : ℕ) (e : Entry) → AreRising es → slice_get es i ≡ Some e → entry_of e.number es ≡ Some e
found_at [] i e rising at = absurd (none-some e at)
found_at (x ∷ es) zero e rising at =
    let here : x ≡ e = same_Some x e at in
    cond-true (x.number == e.number) (Some x) (entry_of e.number es) (eq-eqb x.number e.number (ap (λ (t : Entry). t.number) here)) ∙ at
found_at (x ∷ es) (suc i) e rising at =
    let less : x.number < e.number = rising 0 (suc i) x e refl at (omega arith) in
    cond-false (x.number == e.number) (Some x) (entry_of e.number es) (ne_eqb x.number e.number (λ same. omega (arith, less, same)))
    ∙ found_at es i e (λ j k a b at_j at_k lt. rising (suc j) (suc k) a b at_j at_k (omega arith)) at

pub found_numbered : (es : List Entry) (i : ℕ) (d : Entry) → AreRising es → i < length es → entry_of (get_or (numbers_of es) i 0) es ≡ Some (get_or es i d)
found_numbered es i d rising within =
    let number : get_or (numbers_of es) i 0 ≡ (get_or es i d).number = get_or-map (λ (e : Entry). e.number) es i d 0 within in
    ap (λ n. entry_of n es) number ∙ found_at es i (get_or es i d) rising (slice_get-get_or es i d within)

module _ (rule : ℕ) (es : List Entry) (i : ℕ) (d : Entry) (within : i < length es) (t : Total) where
  -- the visits of one more
  pub one_more_owed : (now : ℕ → Total) → now rule ≡ with_owed rule (take i es) t
      → credited (get_or es i d).visits (get_or es i d).owed_packets (get_or es i d).owed_bytes now rule ≡ with_owed rule (take (i + 1) es) t
  one_more_owed now is =
      let packets = sum_by_more (λ (e : Entry). times_visited rule e.visits * e.owed_packets) es i d within in
      let bytes = sum_by_more (λ (e : Entry). times_visited rule e.visits * e.owed_bytes) es i d within in
      let before_packets : (now rule).packets ≡ t.packets + owed_packets rule (take i es) = ap (λ (x : Total). x.packets) is in
      let before_bytes : (now rule).bytes ≡ t.bytes + owed_bytes rule (take i es) = ap (λ (x : Total). x.bytes) is in
      same_total _ _ (omega arith) (omega arith)

  -- what the first ones owe fits where what all owe does
  pub part_fits : Fits (with_owed rule es t) → (n : ℕ) → Fits (with_owed rule (take n es) t)
  part_fits all n =
      let packets = sum_by-take-le (λ (e : Entry). times_visited rule e.visits * e.owed_packets) es n in
      let bytes = sum_by-take-le (λ (e : Entry). times_visited rule e.visits * e.owed_bytes) es n in
      record { packets = omega (arith, all.packets, packets); bytes = omega (arith, all.bytes, bytes) }

-- entries are found by each of their numbers
pub none_missing : (es : List Entry) (i : ℕ) → AreRising es → i < length es → entry_of (get_or (numbers_of es) i 0) es ≡ None → ⊥
none_missing [] i rising within none = absurd (omega arith)
none_missing (x ∷ es) i rising within none = let clash = sym none ∙ found_numbered (x ∷ es) i x rising within in cc

-- rules are the same for lists of one length
pub rules_alike : (old now : List RuleCounts) → length now ≡ length old → (visits : List ℕ) → All (IsRule (sums_view old)) visits → All (IsRule (sums_view now)) visits
rules_alike old now long visits are k d within =
    let before = are k d within in
    let olds = length-map old sum_view in
    let news = length-map now sum_view in
    record { first = before.first; last = omega (arith, before.last, olds, news, long) }

-- The entry of the number at a place was found.
module _ (es : List Entry) (numbers : List ℕ) (i : ℕ) (rising : AreRising es) (are : numbers ≡ numbers_of es) (lt : i < length numbers) where
  pub inside : i < length es
  inside = omega (arith, lt, ap length are, length-map es (λ (e : Entry). e.number))

  pub not_missing : None ≡ entry_of (get_or numbers i 0) es → ⊥
  not_missing none = none_missing es i rising inside (sym (none ∙ ap (λ ns. entry_of (get_or ns i 0) es) are))

  module _ (e : Entry) (visits : List ℕ) (found : Some e ≡ entry_of (get_or numbers i 0) es) (visits_are : visits ≡ e.visits) where
    same : e ≡ get_or es i e
    same =
        let both : Some e ≡ Some (get_or es i e) = found ∙ ap (λ ns. entry_of (get_or ns i 0) es) are ∙ found_numbered es i e rising inside in
        cc

    pub visits_rules : (old now : List RuleCounts) → length now ≡ length old → All (λ (x : Entry). All (IsRule (sums_view old)) x.visits) es → All (IsRule (sums_view now)) visits
    visits_rules old now long all =
        let here : All (IsRule (sums_view old)) (get_or es i e).visits = all i e inside in
        subst (All (IsRule (sums_view now))) (sym (visits_are ∙ ap (λ (x : Entry). x.visits) same)) (rules_alike old now long (get_or es i e).visits here)

    pub credited_next : (rule : ℕ) (t : Total) (now : ℕ → Total) → now rule ≡ with_owed rule (take i es) t
        → credited visits e.owed_packets e.owed_bytes now rule ≡ with_owed rule (take (i + 1) es) t
    credited_next rule t now is =
        ap (λ vs. credited vs e.owed_packets e.owed_bytes now rule) visits_are
        ∙ ap (λ (x : Entry). credited x.visits x.owed_packets x.owed_bytes now rule) same
        ∙ one_more_owed rule es i e inside t now is

    pub credited_fits : (rule : ℕ) (t : Total) (now : ℕ → Total) → now rule ≡ with_owed rule (take i es) t → Fits (with_owed rule es t)
        → Fits (credited visits e.owed_packets e.owed_bytes now rule)
    credited_fits rule t now is all =
        subst (λ (x : Total). Fits x) (sym (credited_next rule t now is)) (part_fits rule es i e inside t all (i + 1))
