-- What one more visit makes of the totals.
use Rattle.std.proofs.Common.{◌≡◌, ℕ, ◌+◌, ◌-◌, ◌*◌, ◌<◌, ◌≤◌, Bool, true, false, cond, ◌==◌, List, [], ◌∷◌, length, drop, drop-cons, add-one, inl, inr, refl, sym, ap, ap₂, subst, ◌∙◌, get_or-set_same, get_or-set_other, arith}
use Rattle.std.specs.Prelude.{count_by, slice_set, slice_index, slice_index_or, replicate}
use Rattle.std.proofs.lemmas.Bool.{cases_eq, cases_lt, cond-true, cond-false, eq-eqb, ne_eqb, eqb-true, eqb-false}
use Rattle.std.proofs.lemmas.List.{get_or-replicate, get_or_past, length-replicate, map-set}
use Rattle.std.proofs.Math.ListN.{get_or-map}
use Rattle.std.proofs.lemmas.List.Sums.{sum_by-cons}
use Rattle.spec_board.specs.State.{Total}
use Rattle.spec_board.specs.Effects.{credited}
use Rattle.port_caches.specs.Sums.{nothing, total_of, total_view, totals_view, IsRule, IsCountable}
use Rattle.port_caches.specs.declared.stats.counts.Counts.{Counts}

-- a total with so many more packets and bytes
abbrev pub with_more : ℕ → ℕ → Total → Total
with_more packets bytes t = record { packets = t.packets + packets; bytes = t.bytes + bytes }

-- a rule's total is at its place
pub total_of-rule : (totals : List Total) (rule : ℕ) → 1 ≤ rule → total_of totals rule ≡ slice_index_or totals (rule - 1) nothing
total_of-rule totals rule first = cond-false (rule == 0) nothing (slice_index_or totals (rule - 1) nothing) (ne_eqb rule 0 (λ is. omega arith))

pub total_of-set : (totals : List Total) (v : ℕ) (t : Total) (rule : ℕ) → IsRule totals v
    → total_of (slice_set totals (v - 1) t) rule ≡ cond (v == rule) t (total_of totals rule)
total_of-set totals v t rule is_rule =
    elim (cases_eq v rule) [
      | inl is ↦
          let within : v - 1 < length totals = omega (arith, is_rule.first, is_rule.last) in
          total_of-rule (slice_set totals (v - 1) t) rule (omega (arith, is, is_rule.first))
          ∙ ap (λ (n : ℕ). slice_index_or (slice_set totals (v - 1) t) (n - 1) nothing) (sym is)
          ∙ get_or-set_same totals (v - 1) t nothing within
          ∙ sym (cond-true (v == rule) t (total_of totals rule) (eq-eqb v rule is))
      | inr other ↦ at (rule == 0) refl other ∙ sym (cond-false (v == rule) t (total_of totals rule) (ne_eqb v rule other))
    ]
  where
    at : (b : Bool) → (rule == 0) ≡ b → (v ≡ rule → ⊥)
        → cond b nothing (slice_index_or (slice_set totals (v - 1) t) (rule - 1) nothing) ≡ cond b nothing (slice_index_or totals (rule - 1) nothing)
    at true is other = refl
    at false is other =
        let some = eqb-false rule 0 is in
        get_or-set_other totals (v - 1) (rule - 1) t nothing (λ same. other (omega (arith, some, is_rule.first)))

-- totals are the same where both their numbers are
pub same_total : (a b : Total) → a.packets ≡ b.packets → a.bytes ≡ b.bytes → a ≡ b
same_total a b packets bytes =
    let of : ℕ → ℕ → Total = λ p n. record { packets = p; bytes = n } in
    ap₂ of packets bytes

-- once more, and so many times
once_more : (packets bytes n : ℕ) (t : Total)
    → with_more (n * packets) (n * bytes) (with_more packets bytes t) ≡ with_more ((1 + n) * packets) ((1 + n) * bytes) t
once_more packets bytes n t = same_total _ _ (omega arith) (omega arith)

-- one visit is credited before the others
pub credited-set : (totals : List Total) (v : ℕ) (visits : List ℕ) (packets bytes rule : ℕ) → IsRule totals v
    → credited visits packets bytes (total_of (slice_set totals (v - 1) (with_more packets bytes (total_of totals v)))) rule
    ≡ credited (v ∷ visits) packets bytes (total_of totals) rule
credited-set totals v visits packets bytes rule is_rule =
    let times = count_by (λ (r : ℕ). r == rule) visits in
    ap (with_more (times * packets) (times * bytes)) (total_of-set totals v (with_more packets bytes (total_of totals v)) rule is_rule)
    ∙ at (v == rule) (λ is. ap (total_of totals) (eqb-true v rule is)) times
    ∙ ap (λ (n : ℕ). with_more (n * packets) (n * bytes) (total_of totals rule)) (sym (sum_by-cons (λ (r : ℕ). cond (r == rule) 1 0) v visits))
  where
    at : (b : Bool) → (b ≡ true → total_of totals v ≡ total_of totals rule) → (n : ℕ)
        → with_more (n * packets) (n * bytes) (cond b (with_more packets bytes (total_of totals v)) (total_of totals rule))
        ≡ with_more ((cond b 1 0 + n) * packets) ((cond b 1 0 + n) * bytes) (total_of totals rule)
    at true same n =
        ap (λ (t : Total). with_more (n * packets) (n * bytes) (with_more packets bytes t)) (same refl)
        ∙ once_more packets bytes n (total_of totals rule)
    at false same n = same_total _ _ (omega arith) (omega arith)

-- the visits from a place on
pub drop-visits : (visits : List ℕ) (i : ℕ) → i < length visits → drop i visits ≡ slice_index visits i ∷ drop (i + 1) visits
drop-visits visits i within = drop-cons visits i 0 within ∙ ap (λ (k : ℕ). slice_index visits i ∷ drop k visits) (sym (add-one i))

pub credited-none : (totals : List Total) (packets bytes rule : ℕ) → credited [] packets bytes (total_of totals) rule ≡ total_of totals rule
credited-none totals packets bytes rule = same_total _ _ (omega arith) (omega arith)

-- what a visit's rule comes to by this visit is at most what all lead to
pub countable_once : (totals : List Total) (v : ℕ) (visits : List ℕ) (packets bytes : ℕ)
    → IsCountable (credited (v ∷ visits) packets bytes (total_of totals) v) → IsCountable (with_more packets bytes (total_of totals v))
countable_once totals v visits packets bytes all =
    let others = count_by (λ (r : ℕ). r == v) visits in
    let once : count_by (λ (r : ℕ). r == v) (v ∷ visits) ≡ 1 + others =
    sum_by-cons (λ (r : ℕ). cond (r == v) 1 0) v visits ∙ ap (λ (n : ℕ). n + others) (cond-true (v == v) 1 0 (eq-eqb v v refl)) in
    let is : with_more ((1 + others) * packets) ((1 + others) * bytes) (total_of totals v) ≡ credited (v ∷ visits) packets bytes (total_of totals) v =
    ap (λ (n : ℕ). with_more (n * packets) (n * bytes) (total_of totals v)) (sym once) in
    let most : IsCountable (with_more ((1 + others) * packets) ((1 + others) * bytes) (total_of totals v)) = subst (λ (t : Total). IsCountable t) (sym is) all in
    record { packets = omega (arith, most.packets); bytes = omega (arith, most.bytes) }

-- ---- the counts of the body

module _ (counts : List Counts) (v : ℕ) (is_rule : IsRule (totals_view counts) v) where
  -- the total of a rule is that of the counts at its place
  pub total_of-counts : total_of (totals_view counts) v ≡ total_view (slice_index_or counts (v - 1) (record { packets = 0; bytes = 0 }))
  total_of-counts = total_of-rule (totals_view counts) v is_rule.first ∙ get_or-map total_view counts (v - 1) (record { packets = 0; bytes = 0 })

  -- a visit adds to them there
  pub credited-counts : (more : Counts) (visits : List ℕ) (packets bytes rule : ℕ)
      → total_view more ≡ with_more packets bytes (total_view (slice_index_or counts (v - 1) (record { packets = 0; bytes = 0 })))
      → credited visits packets bytes (total_of (totals_view (slice_set counts (v - 1) more))) rule ≡ credited (v ∷ visits) packets bytes (total_of (totals_view counts)) rule
  credited-counts more visits packets bytes rule is =
      ap (λ (totals : List Total). credited visits packets bytes (total_of totals) rule)
      (map-set total_view counts (v - 1) more
      ∙ ap (slice_set (totals_view counts) (v - 1)) (is ∙ ap (with_more packets bytes) (sym total_of-counts)))
      ∙ credited-set (totals_view counts) v visits packets bytes rule is_rule

-- where none was credited, all have nothing
pub total_of-replicate : (rules rule : ℕ) → total_of (totals_view (replicate rules (record { packets = 0; bytes = 0 }))) rule ≡ nothing
total_of-replicate rules rule = at (rule == 0)
  where
    at : (b : Bool) → cond b nothing (slice_index_or (totals_view (replicate rules (record { packets = 0; bytes = 0 }))) (rule - 1) nothing) ≡ nothing
    at true = refl
    at false =
        let none : Counts = record { packets = 0; bytes = 0 } in
        get_or-map total_view (replicate rules none) (rule - 1) none
        ∙ ap total_view (elim (cases_lt (rule - 1) rules) [
          | inl within ↦ get_or-replicate rules (rule - 1) none none within
          | inr past ↦ get_or_past (replicate rules none) (rule - 1) none (omega (arith, past, length-replicate {A = Counts} rules none))
        ])
