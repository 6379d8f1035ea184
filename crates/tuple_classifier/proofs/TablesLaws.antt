-- The rules of all tables, as rules come and go.
use Rattle.std.proofs.Common.{◌≡◌, ℕ, zero, suc, ◌<◌, true, false, ◌==◌, not, List, [], ◌∷◌, ◌++◌, append-nil, length, set, slice_get, Option, Some, None, inl, inr, ◌⊎◌, refl, sym, ap, ◌∙◌, subst, arith, eqb-true, eq-eqb}
use Rattle.std.proofs.lemmas.Bool.{cases_eq, cond-true, cond-false, false≢true}
use Rattle.std.proofs.lemmas.List.Elements.{filter-append}
use Rattle.std.proofs.lemmas.Option.{same_Some}
use Rattle.spec_tables.specs.Rules.{Rule, rules_in}
use Rattle.table_laws.proofs.MemberLaws.{Among, Among-filter}
use Rattle.staged_lookup.specs.Numbered.{AreDistinct, without}
use Rattle.staged_lookup.specs.Subtables.{HasNoRule}
use Rattle.staged_lookup.proofs.Removed.{all_stay}
use Rattle.tuple_classifier.specs.declared.table.Table.{Table}
use Rattle.tuple_classifier.specs.ByTable.{HasRules, AreClassified, HaveNoRule}
use Rattle.tuple_classifier.specs.Kept.{by_place}
use Rattle.tuple_classifier.specs.Tables.{IsTableOf}
use Rattle.tuple_classifier.proofs.Lengths.{not_equal}
use Rattle.tuple_classifier.proofs.TableLaws.{filter_swapped, untrue}
use Rattle.tuple_classifier.proofs.WinnerLaws.{one_of_number}

-- ---- one table more, and one in the place of another

pub set_here : (ts : List Table) (i : ℕ) (t : Table) → i < length ts → slice_get (set ts i t) i ≡ Some t
set_here [] i t within = absurd (omega arith)
set_here (u ∷ ts) zero t within = refl
set_here (u ∷ ts) (suc i) t within = set_here ts i t (omega arith)

pub set_others : (ts : List Table) (i k : ℕ) (t : Table) → (k ≡ i → ⊥) → slice_get (set ts i t) k ≡ slice_get ts k
set_others [] i k t other = refl
set_others (u ∷ ts) zero zero t other = absurd (other refl)
set_others (u ∷ ts) zero (suc k) t other = refl
set_others (u ∷ ts) (suc i) zero t other = refl
set_others (u ∷ ts) (suc i) (suc k) t other = set_others ts i k t (λ e. other (ap suc e))

at_end : (ts : List Table) (t : Table) (k : ℕ) → (slice_get (ts ++ t ∷ []) k ≡ slice_get ts k) ⊎ ((slice_get ts k ≡ None) × (slice_get (ts ++ t ∷ []) k ≡ Some t))
at_end [] t zero = inr (refl, refl)
at_end [] t (suc k) = inl refl
at_end (u ∷ ts) t zero = inl refl
at_end (u ∷ ts) t (suc k) = at_end ts t k

pub one_more : (ts : List Table) (t : Table) (rules : List Rule) → IsTableOf t [] → AreClassified ts rules → AreClassified (ts ++ t ∷ []) rules
one_more ts t rules empty are table = by (at_end ts t table)
  where
    by : (slice_get (ts ++ t ∷ []) table ≡ slice_get ts table) ⊎ ((slice_get ts table ≡ None) × (slice_get (ts ++ t ∷ []) table ≡ Some t)) → HasRules (slice_get (ts ++ t ∷ []) table) (rules_in table rules)
    by (inl e) = subst (λ (o : Option Table). HasRules o (rules_in table rules)) (sym e) (are table)
    by (inr h) =
        let none : rules_in table rules ≡ [] = subst (λ (o : Option Table). HasRules o (rules_in table rules)) h.0 (are table) in
        subst (λ (o : Option Table). HasRules o (rules_in table rules)) (sym h.1) (subst (IsTableOf t) (sym none) empty)

pub one_more_new : (ts : List Table) (t : Table) (number : ℕ) → IsTableOf t [] → HaveNoRule number ts → HaveNoRule number (ts ++ t ∷ [])
one_more_new ts t number empty new table i u s at_u at = by (at_end ts t table)
  where
    by : (slice_get (ts ++ t ∷ []) table ≡ slice_get ts table) ⊎ ((slice_get ts table ≡ None) × (slice_get (ts ++ t ∷ []) table ≡ Some t)) → HasNoRule number s.staged
    by (inl e) = new table i u s (sym e ∙ at_u) at
    by (inr h) =
        let is : u ≡ t = same_Some u t (sym at_u ∙ h.1) in
        ([], (empty.kept.subtables.each i s (ap (λ (v : Table). slice_get (by_place v.subtables) i) (sym is) ∙ at)).staged, λ r m e. absurd m)

-- the rules of a table that is there
pub rules_of : (ts : List Table) (i : ℕ) (t : Table) (rs : List Rule) → slice_get ts i ≡ Some t → HasRules (slice_get ts i) rs → IsTableOf t rs
rules_of ts i t rs at has = subst (λ (o : Option Table). HasRules o rs) at has

-- and of one that is missing
pub rules_of_none : (ts : List Table) (i : ℕ) (rs : List Rule) → slice_get ts i ≡ None → HasRules (slice_get ts i) rs → rs ≡ []
rules_of_none ts i rs at has = subst (λ (o : Option Table). HasRules o rs) at has

-- ---- the rules of a table, with one more and one less

in_table_more : (t : ℕ) (rules : List Rule) (r : Rule) → (r.table == t) ≡ true → rules_in t (rules ++ r ∷ []) ≡ rules_in t rules ++ r ∷ []
in_table_more t rules r is =
    filter-append (λ (x : Rule). x.table == t) rules (r ∷ []) ∙ ap (λ (ys : List Rule). rules_in t rules ++ ys) (cond-true (r.table == t) (r ∷ []) [] is)

in_table_same : (t : ℕ) (rules : List Rule) (r : Rule) → (r.table == t) ≡ false → rules_in t (rules ++ r ∷ []) ≡ rules_in t rules
in_table_same t rules r is =
    filter-append (λ (x : Rule). x.table == t) rules (r ∷ []) ∙ ap (λ (ys : List Rule). rules_in t rules ++ ys) (cond-false (r.table == t) (r ∷ []) [] is)
    ∙ append-nil (rules_in t rules)

in_table_less : (t number : ℕ) (rules : List Rule) → rules_in t (without number rules) ≡ without number (rules_in t rules)
in_table_less t number rules = filter_swapped (λ (x : Rule). x.table == t) (λ (x : Rule). not (x.number == number)) rules

in_table_stays : (t : ℕ) (rules : List Rule) (r : Rule) → AreDistinct rules → Among r rules → (r.table == t) ≡ false → rules_in t (without r.number rules) ≡ rules_in t rules
in_table_stays t rules r distinct m other =
    in_table_less t r.number rules
    ∙ all_stay r.number (rules_in t rules) (λ s a.
    let b = Among-filter (λ (x : Rule). x.table == t) s rules a in
    untrue (s.number == r.number) (λ (e : (s.number == r.number) ≡ true).
    let is : s ≡ r = one_of_number rules distinct s r b.0 m (eqb-true s.number r.number e) in
    false≢true (sym other ∙ ap (λ (x : Rule). x.table == t) (sym is) ∙ b.1)))

-- ---- all tables

pub changed_in : (ts us : List Table) (rules rules' : List Rule) (table : ℕ) → AreClassified ts rules
    → ((k : ℕ) → (k ≡ table → ⊥) → slice_get us k ≡ slice_get ts k) → ((k : ℕ) → (k ≡ table → ⊥) → rules_in k rules' ≡ rules_in k rules)
    → HasRules (slice_get us table) (rules_in table rules') → AreClassified us rules'
changed_in ts us rules rules' table are others same own k = by (cases_eq k table)
  where
    by : (k ≡ table) ⊎ (k ≡ table → ⊥) → HasRules (slice_get us k) (rules_in k rules')
    by (inl e) = subst (λ (j : ℕ). HasRules (slice_get us j) (rules_in j rules')) (sym e) own
    by (inr e) = subst (λ (o : Option Table). HasRules o (rules_in k rules')) (sym (others k e)) (subst (HasRules (slice_get ts k)) (sym (same k e)) (are k))

module _ (ts : List Table) (table : ℕ) (t : Table) (rules : List Rule) (within : table < length ts) (are : AreClassified ts rules) where
  written : (rs : List Rule) → IsTableOf t rs → HasRules (slice_get (set ts table t) table) rs
  written rs own = subst (λ (o : Option Table). HasRules o rs) (sym (set_here ts table t within)) own

  pub inserted : (r : Rule) → r.table ≡ table → IsTableOf t (rules_in table rules ++ r ∷ []) → AreClassified (set ts table t) (rules ++ r ∷ [])
  inserted r is own =
      changed_in ts (set ts table t) rules (rules ++ r ∷ []) table are (λ k other. set_others ts table k t other) (λ k other. in_table_same k rules r (not_equal r.table k (λ e. other (sym e ∙ is))))
      (written (rules_in table (rules ++ r ∷ [])) (subst (IsTableOf t) (sym (in_table_more table rules r (eq-eqb r.table table is))) own))

  pub taken : (r : Rule) → AreDistinct rules → Among r rules → r.table ≡ table → IsTableOf t (without r.number (rules_in table rules)) → AreClassified (set ts table t) (without r.number rules)
  taken r distinct m is own =
      changed_in ts (set ts table t) rules (without r.number rules) table are (λ k other. set_others ts table k t other)
      (λ k other. in_table_stays k rules r distinct m (not_equal r.table k (λ e. other (sym e ∙ is))))
      (written (rules_in table (without r.number rules)) (subst (IsTableOf t) (sym (in_table_less table r.number rules)) own))

  pub same_but : IsTableOf t (rules_in table rules) → AreClassified (set ts table t) rules
  same_but own = changed_in ts (set ts table t) rules rules table are (λ k other. set_others ts table k t other) (λ k other. refl) (written (rules_in table rules) own)
