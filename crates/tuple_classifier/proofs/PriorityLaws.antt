-- The priorities of rules, kept as numbers.
use Rattle.std.proofs.Common.{◌≡◌, ℕ, ◌<◌, ◌≤◌, Bool, true, false, nat_le, ◌==◌, List, Option, Some, None, refl, sym, ap, ◌∙◌, subst, arith, eqb-true, eq-eqb}
use Rattle.std.specs.List.{list_any, count_by}
use Rattle.std.specs.Option.{option_eq}
use Rattle.std.proofs.lemmas.Bool.{leb-true, le-leb, leb-false, false≢true}
use Rattle.spec_tables.specs.Rules.{Rule}
use Rattle.table_laws.proofs.MemberLaws.{Among, list_any_from-Among}
use Rattle.tuple_classifier.specs.Numbers.{times}
use Rattle.tuple_classifier.proofs.Times.{stands, stood}
use Rattle.staged_lookup.proofs.Members.{any_among, counted_among, counted_from}
use Rattle.std.proofs.lemmas.Bool.Decides.{same_from_decides}

pub any_priority : (rs : List Rule) (ns : List ℕ) → ((n : ℕ) → times n ns ≡ count_by (λ r. r.priority == n) rs) → (test : ℕ → Bool)
    → list_any test ns ≡ list_any (λ r. test r.priority) rs
any_priority rs ns counted test = same_from_decides {P = list_any (λ r. test r.priority) rs ≡ true} (list_any test ns) (list_any (λ r. test r.priority) rs) (
  (λ h.
      let m = any_among test ns h in
      let r = counted_among (λ (x : Rule). x.priority == m.0) rs (subst (λ (k : ℕ). 0 < k) (counted m.0) (stands m.0 ns m.1)) in
      list_any_from-Among (λ (x : Rule). test x.priority) r.0 rs r.1 (ap test (eqb-true r.0.priority m.0 r.2) ∙ m.2)),
  (λ h.
      let m = any_among (λ (x : Rule). test x.priority) rs h in
      list_any_from-Among test m.0.priority ns
      (stood m.0.priority ns (subst (λ (k : ℕ). 0 < k) (sym (counted m.0.priority)) (counted_from (λ (x : Rule). x.priority == m.0.priority) m.0 rs m.1 (eq-eqb m.0.priority m.0.priority refl)))) m.2),
)
    (λ e. e, λ e. e)

pub priority_has : (rs : List Rule) (ns : List ℕ) → ((n : ℕ) → times n ns ≡ count_by (λ r. r.priority == n) rs) → (r : Rule) → Among r rs → 0 < times r.priority ns
priority_has rs ns counted r m = subst (λ (k : ℕ). 0 < k) (sym (counted r.priority)) (counted_from (λ (x : Rule). x.priority == r.priority) r rs m (eq-eqb r.priority r.priority refl))

-- ---- the greatest of some numbers, beside others

module _ (ns ms : List ℕ) (greatest : ℕ) (is : (floor : ℕ) → list_any (λ n. nat_le floor n) ns ≡ nat_le floor greatest) where
  -- where the others don't reach it, what they reach these do
  pub above : list_any (λ m. nat_le greatest m) ms ≡ false → (floor : ℕ) → list_any (λ m. nat_le floor m) ms ≡ true → list_any (λ n. nat_le floor n) ns ≡ true
  above none floor h =
      let m = any_among (λ k. nat_le floor k) ms h in
      let le = leb-true floor m.0 m.2 in
      is floor ∙ le-leb floor greatest (by (nat_le greatest m.0) refl le m.1)
    where
      by : {k : ℕ} (t : Bool) → nat_le greatest k ≡ t → floor ≤ k → Among k ms → floor ≤ greatest
      by {k} true e le m = absurd (false≢true (sym none ∙ list_any_from-Among (λ x. nat_le greatest x) k ms m e))
      by {k} false e le m = let lt = leb-false greatest k e in omega (arith, lt, le)

  -- where they do, what these reach they do
  pub not_above : list_any (λ m. nat_le greatest m) ms ≡ true → (floor : ℕ) → list_any (λ n. nat_le floor n) ns ≡ true → list_any (λ m. nat_le floor m) ms ≡ true
  not_above some floor h =
      let m = any_among (λ k. nat_le greatest k) ms some in
      let low = leb-true floor greatest (sym (is floor) ∙ h) in
      let high = leb-true greatest m.0 m.2 in
      list_any_from-Among (λ k. nat_le floor k) m.0 ms m.1 (le-leb floor m.0 (omega (arith, low, high)))

-- two greatest that test equal are
pub same_greatest : (a b : Option ℕ) → option_eq (λ (x y : ℕ). x == y) a b ≡ true → a ≡ b
same_greatest None None e = refl
same_greatest None (Some y) e = absurd (false≢true e)
same_greatest (Some x) None e = absurd (false≢true e)
same_greatest (Some x) (Some y) e = ap Some (eqb-true x y e)
