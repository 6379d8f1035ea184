-- No two rules of a version have one table, priority and match.
use Rattle.std.proofs.Common.{◌≡◌, ℕ, zero, suc, Bool, true, false, ◌==◌, if◌then◌else◌, List, [], ◌∷◌, ◌++◌, filter, ◌⊎◌, inl, inr, refl, sym, ◌∙◌, Option, Some, None}
use Rattle.std.specs.Prelude.{not, ◌&&◌, slice_get}
use Rattle.std.proofs.lemmas.Bool.{and_parts, and_from, eqb-true, eq-eqb, false≢true, not-true, false_from_ne_true}
use Rattle.spec_keys.specs.Keys.{same}
use Rattle.spec_tables.specs.declared.edit_word.EditWord.{EditWord}
use Rattle.spec_tables.specs.declared.edit_word.EditWord.TheVariants.{Add, Modify, ModifyStrict, Delete, DeleteStrict}
use Rattle.spec_tables.specs.Rules.{Rule, is_same_match}
use Rattle.spec_tables.specs.Edits.{Edit, rule_of, with_actions, without, modified, edited, after_edit, after_edits, is_named_by, is_reached_by}
use Rattle.spec_base.specs.Sorting.{insert_by, sort_by}
use Rattle.spec_run.specs.Rules.{comes_before, in_order}
use Rattle.table_laws.proofs.MemberLaws.{Among, Among-append, Among-filter, Among-insert_by, Among-sort_by}
use Rattle.table_laws.proofs.KeyLaws.{same_refl, same-eq}
use Rattle.board_laws.proofs.ListLaws.{Among-map}
use Rattle.output_laws.specs.Lines.{added}

-- the edit that adds the second names the first
abbrev pub names : Rule → Rule → Bool
names r s = is_named_by (added s) r

names_back : (r s : Rule) → names r s ≡ true → names s r ≡ true
names_back r s h =
    let a = and_parts (r.table == s.table) ((r.priority == s.priority) && is_same_match r.matching s.matching) h in
    let b = and_parts (r.priority == s.priority) (is_same_match r.matching s.matching) a.1 in
    let c = and_parts (same r.matching.key s.matching.key) (same r.matching.mask s.matching.mask) b.1 in
    let key = sym (same-eq r.matching.key s.matching.key c.0) in
    let mask = sym (same-eq r.matching.mask s.matching.mask c.1) in
    and_from (s.table == r.table) ((s.priority == r.priority) && is_same_match s.matching r.matching) (eq-eqb s.table r.table (sym (eqb-true r.table s.table a.0)))
    (and_from (s.priority == r.priority) (is_same_match s.matching r.matching) (eq-eqb s.priority r.priority (sym (eqb-true r.priority s.priority b.0)))
    (and_from (same s.matching.key r.matching.key) (same s.matching.mask r.matching.mask) (rw key (same_refl r.matching.key)) (rw mask (same_refl r.matching.mask))))

pub apart_back : (r s : Rule) → names r s ≡ false → names s r ≡ false
apart_back r s h = false_from_ne_true (names s r) (λ t. false≢true (sym h ∙ names_back s r t))

abbrev pub AreDistinct : List Rule → Type 0
AreDistinct [] = Unit {0}
AreDistinct (r ∷ rules) = ((s : Rule) → Among s rules → names r s ≡ false) × AreDistinct rules

-- ---- what edits make

distinct_filter : (p : Rule → Bool) (rules : List Rule) → AreDistinct rules → AreDistinct (filter p rules)
distinct_filter p [] d = tt
distinct_filter p (r ∷ rules) d = at (p r) (distinct_filter p rules d.1)
  where
    at : (t : Bool) → AreDistinct (filter p rules) → AreDistinct (if t then r ∷ filter p rules else filter p rules)
    at true others = (λ s there. d.0 s (Among-filter p s rules there).0, others)
    at false others = others

pub distinct_push : (rules : List Rule) (new : Rule) → AreDistinct rules → ((r : Rule) → Among r rules → names r new ≡ false) → AreDistinct (rules ++ new ∷ [])
distinct_push [] new d h = (λ s there. absurd there, tt)
distinct_push (r ∷ rules) new d h = (λ s there. at s (Among-append s rules (new ∷ []) there), distinct_push rules new d.1 (λ s there. h s (inr there)))
  where
    at : (s : Rule) → Among s rules ⊎ Among s (new ∷ []) → names r s ≡ false
    at s (inl old) = d.0 s old
    at s (inr (inl is)) = rw is (h r (inl refl))
    at s (inr (inr none)) = absurd none

changed : (picked : Rule → Bool) → Edit → Rule → Rule
changed picked e r = if picked r then with_actions e r else r

-- a rule that has other actions is named as before
changed_named : (picked : Rule → Bool) (e : Edit) (r s : Rule) → names (if picked r then with_actions e r else r) (if picked s then with_actions e s else s) ≡ names r s
changed_named picked e r s = at (picked r) (picked s)
  where
    at : (t u : Bool) → names (if t then with_actions e r else r) (if u then with_actions e s else s) ≡ names r s
    at true true = refl
    at true false = refl
    at false true = refl
    at false false = refl

distinct_modified : (picked : Rule → Bool) (e : Edit) (rules : List Rule) → AreDistinct rules → AreDistinct (modified picked e rules)
distinct_modified picked e [] d = tt
distinct_modified picked e (r ∷ rules) d = (apart, distinct_modified picked e rules d.1)
  where
    apart : (s : Rule) → Among s (modified picked e rules) → names (if picked r then with_actions e r else r) s ≡ false
    apart s there =
        let from = Among-map (λ x. if picked x then with_actions e x else x) s rules there in
        rw from.2 (changed_named picked e r from.0 ∙ d.0 from.0 from.1)

distinct_edited : (word : EditWord) (number : ℕ) (e : Edit) (rules : List Rule) → AreDistinct rules → AreDistinct (edited word number e rules)
distinct_edited Add number e rules d =
    distinct_push (without (is_named_by e) rules) (rule_of number e) (distinct_filter (λ r. not (is_named_by e r)) rules d)
    (λ r there. not-true (is_named_by e r) (Among-filter (λ x. not (is_named_by e x)) r rules there).1)
distinct_edited Modify number e rules d = distinct_modified (is_reached_by e) e rules d
distinct_edited ModifyStrict number e rules d = distinct_modified (is_named_by e) e rules d
distinct_edited Delete number e rules d = distinct_filter (λ r. not (is_reached_by e r)) rules d
distinct_edited DeleteStrict number e rules d = distinct_filter (λ r. not (is_named_by e r)) rules d

pub distinct_edits : (edits : List Edit) (n : ℕ) → AreDistinct (after_edits edits n)
unfolding after_edits
distinct_edits edits zero = tt
distinct_edits edits (suc n) = at (slice_get edits n) (distinct_edits edits n)
  where
    at : (o : Option Edit) → AreDistinct (after_edits edits n) → AreDistinct (after_edit (suc n) o (after_edits edits n))
    at None d = d
    at (Some e) d = distinct_edited e.word (suc n) e (after_edits edits n) d

-- ---- in any order

distinct_put : (r : Rule) (rules : List Rule) → AreDistinct rules → ((s : Rule) → Among s rules → names r s ≡ false) → AreDistinct (insert_by comes_before r rules)
unfolding insert_by
distinct_put r [] d h = (λ s there. absurd there, tt)
distinct_put r (x ∷ rules) d h = at (comes_before x r) (distinct_put r rules d.1 (λ s there. h s (inr there)))
  where
    apart : (s : Rule) → (s ≡ r) ⊎ Among s rules → names x s ≡ false
    apart s (inl is) = rw is (apart_back r x (h x (inl refl)))
    apart s (inr old) = d.0 s old

    at : (t : Bool) → AreDistinct (insert_by comes_before r rules) → AreDistinct (if t then x ∷ insert_by comes_before r rules else r ∷ x ∷ rules)
    at true others = (λ s there. apart s (Among-insert_by comes_before s r rules there), others)
    at false others = (h, d)

pub distinct_order : (rules : List Rule) → AreDistinct rules → AreDistinct (in_order rules)
unfolding sort_by
distinct_order [] d = tt
distinct_order (r ∷ rules) d = distinct_put r (in_order rules) (distinct_order rules d.1) (λ s there. d.0 s (Among-sort_by comes_before s rules there))
