-- What one write makes of the sums.
use Rattle.std.proofs.Common.{◌≡◌, ℕ, ◌+◌, ◌-◌, ◌*◌, ◌<◌, ◌≤◌, Bool, true, false, cond, ◌==◌, List, ◌∷◌, length, inl, inr, refl, sym, ap, subst, ◌∙◌, arith}
use Rattle.std.specs.Prelude.{count_by, slice_set, slice_index_or, replicate}
use Rattle.std.proofs.lemmas.Bool.{cases_eq, cases_lt, cond-true, cond-false, eq-eqb, ne_eqb}
use Rattle.std.proofs.lemmas.List.{get_or-replicate, get_or_past, length-replicate, map-set}
use Rattle.std.proofs.Math.ListN.{get_or-map}
use Rattle.std.proofs.lemmas.List.Sums.{sum_by-cons}
use Rattle.spec_board.specs.State.{Total}
use Rattle.spec_board.specs.Effects.{credited}
use Rattle.spec_run.specs.declared.rule_counts.RuleCounts.{RuleCounts}
use Rattle.port_caches.specs.Sums.{nothing, total_of, IsRule}
use Rattle.port_caches.proofs.stats.Credits.{same_total, with_more, total_of-rule, total_of-set, credited-set}
use Rattle.flow_dump.specs.Sums.{Fits, sum_view, sums_view, with_total}

-- what a visit's rule comes to by this visit is at most what all lead to
pub fits_once : (totals : List Total) (v : ℕ) (visits : List ℕ) (packets bytes : ℕ)
    → Fits (credited (v ∷ visits) packets bytes (total_of totals) v) → Fits (with_more packets bytes (total_of totals v))
fits_once totals v visits packets bytes all =
    let others = count_by (λ (r : ℕ). r == v) visits in
    let once : count_by (λ (r : ℕ). r == v) (v ∷ visits) ≡ 1 + others =
    sum_by-cons (λ (r : ℕ). cond (r == v) 1 0) v visits ∙ ap (λ (n : ℕ). n + others) (cond-true (v == v) 1 0 (eq-eqb v v refl)) in
    let is : with_more ((1 + others) * packets) ((1 + others) * bytes) (total_of totals v) ≡ credited (v ∷ visits) packets bytes (total_of totals) v =
    ap (λ (n : ℕ). with_more (n * packets) (n * bytes) (total_of totals v)) (sym once) in
    let most : Fits (with_more ((1 + others) * packets) ((1 + others) * bytes) (total_of totals v)) = subst (λ (t : Total). Fits t) (sym is) all in
    record { packets = omega (arith, most.packets); bytes = omega (arith, most.bytes) }

-- ---- the counts of the body

module _ (counts : List RuleCounts) (v : ℕ) (is_rule : IsRule (sums_view counts) v) where
  -- the total of a rule is that of the counts at its place
  pub total_of-counts : total_of (sums_view counts) v ≡ sum_view (slice_index_or counts (v - 1) (record { packets = 0; bytes = 0 }))
  total_of-counts = total_of-rule (sums_view counts) v is_rule.first ∙ get_or-map sum_view counts (v - 1) (record { packets = 0; bytes = 0 })

  -- a visit adds to them there
  pub credited-counts : (more : RuleCounts) (visits : List ℕ) (packets bytes rule : ℕ)
      → sum_view more ≡ with_more packets bytes (sum_view (slice_index_or counts (v - 1) (record { packets = 0; bytes = 0 })))
      → credited visits packets bytes (total_of (sums_view (slice_set counts (v - 1) more))) rule ≡ credited (v ∷ visits) packets bytes (total_of (sums_view counts)) rule
  credited-counts more visits packets bytes rule is =
      ap (λ (totals : List Total). credited visits packets bytes (total_of totals) rule)
      (map-set sum_view counts (v - 1) more
      ∙ ap (slice_set (sums_view counts) (v - 1)) (is ∙ ap (with_more packets bytes) (sym total_of-counts)))
      ∙ credited-set (sums_view counts) v visits packets bytes rule is_rule

  -- one total is added there
  pub total_more : (more : RuleCounts) (t : Total) (rule : ℕ)
      → sum_view more ≡ with_total t (sum_view (slice_index_or counts (v - 1) (record { packets = 0; bytes = 0 })))
      → total_of (sums_view (slice_set counts (v - 1) more)) rule ≡ cond (v == rule) (with_total t (total_of (sums_view counts) v)) (total_of (sums_view counts) rule)
  total_more more t rule is =
      ap (λ (totals : List Total). total_of totals rule)
      (map-set sum_view counts (v - 1) more
      ∙ ap (slice_set (sums_view counts) (v - 1)) (is ∙ ap (with_total t) (sym total_of-counts)))
      ∙ total_of-set (sums_view counts) v (with_total t (total_of (sums_view counts) v)) rule is_rule

-- what is no rule has nothing
pub total_of-none : (totals : List Total) (rule : ℕ) → length totals < rule → total_of totals rule ≡ nothing
total_of-none totals rule past = total_of-rule totals rule (omega arith) ∙ get_or_past totals (rule - 1) nothing (omega arith)

-- ---- a total of each rule, one after the other

-- Those up to a rule are added, and the others are as they were.
pub record AddedUpTo (totals : List Total) (last : ℕ) (old now : List RuleCounts) : Type 0 where
  pub added : (rule : ℕ) → rule ≤ last → total_of (sums_view now) rule ≡ with_total (total_of totals rule) (total_of (sums_view old) rule)
  pub left : (rule : ℕ) → last < rule → total_of (sums_view now) rule ≡ total_of (sums_view old) rule

pub none_added : (totals : List Total) (old : List RuleCounts) → AddedUpTo totals 0 old old
none_added totals old = record {
  added = λ rule le. let zero : rule ≡ 0 = omega arith in rw zero refl;
  left = λ rule lt. refl;
}

module _ (totals : List Total) (before : ℕ) (old now : List RuleCounts) (so_far : AddedUpTo totals before old now) where
  -- the next is a rule, and its sum fits
  pub next_fits : IsRule (sums_view now) (before + 1) → ((rule : ℕ) → Fits (with_total (total_of totals rule) (total_of (sums_view old) rule)))
      → Fits (with_total (total_of totals (before + 1)) (sum_view (slice_index_or now (before + 1 - 1) (record { packets = 0; bytes = 0 }))))
  next_fits is_rule fits =
      let here : total_of (sums_view old) (before + 1) ≡ sum_view (slice_index_or now (before + 1 - 1) (record { packets = 0; bytes = 0 })) =
      sym (so_far.left (before + 1) (omega arith)) ∙ total_of-counts now (before + 1) is_rule in
      subst (λ (t : Total). Fits (with_total (total_of totals (before + 1)) t)) here (fits (before + 1))

  pub one_added : IsRule (sums_view now) (before + 1) → (more : RuleCounts)
      → sum_view more ≡ with_total (total_of totals (before + 1)) (sum_view (slice_index_or now (before + 1 - 1) (record { packets = 0; bytes = 0 })))
      → AddedUpTo totals (before + 1) old (slice_set now (before + 1 - 1) more)
  one_added is_rule more is = record {
    added = λ rule le. elim (cases_eq (before + 1) rule) [
      | inl same ↦
          total_more now (before + 1) is_rule more (total_of totals (before + 1)) rule is
          ∙ cond-true (before + 1 == rule) _ _ (eq-eqb (before + 1) rule same)
          ∙ ap (with_total (total_of totals (before + 1))) (so_far.left (before + 1) (omega arith))
          ∙ ap (λ (r : ℕ). with_total (total_of totals r) (total_of (sums_view old) r)) same
      | inr other ↦
          total_more now (before + 1) is_rule more (total_of totals (before + 1)) rule is
          ∙ cond-false (before + 1 == rule) _ _ (ne_eqb (before + 1) rule other)
          ∙ so_far.added rule (omega arith)
    ];
    left = λ rule lt.
        total_more now (before + 1) is_rule more (total_of totals (before + 1)) rule is
        ∙ cond-false (before + 1 == rule) _ _ (ne_eqb (before + 1) rule (λ same. omega arith))
        ∙ so_far.left rule (omega arith);
  }

  pub all_added : length totals ≤ before → (rule : ℕ) → total_of (sums_view now) rule ≡ with_total (total_of totals rule) (total_of (sums_view old) rule)
  all_added all rule = elim (cases_lt before rule) [
    | inl past ↦
        so_far.left rule past
        ∙ same_total _ _ (omega arith) (omega arith)
        ∙ ap (λ (t : Total). with_total t (total_of (sums_view old) rule)) (sym (total_of-none totals rule (omega arith)))
    | inr within ↦ so_far.added rule (omega arith)
  ]

-- where none was counted, all have nothing
pub total_of-replicate : (rules rule : ℕ) → total_of (sums_view (replicate rules (record { packets = 0; bytes = 0 }))) rule ≡ nothing
total_of-replicate rules rule = at (rule == 0)
  where
    at : (b : Bool) → cond b nothing (slice_index_or (sums_view (replicate rules (record { packets = 0; bytes = 0 }))) (rule - 1) nothing) ≡ nothing
    at true = refl
    at false =
        let none : RuleCounts = record { packets = 0; bytes = 0 } in
        get_or-map sum_view (replicate rules none) (rule - 1) none
        ∙ ap sum_view (elim (cases_lt (rule - 1) rules) [
          | inl within ↦ get_or-replicate rules (rule - 1) none none within
          | inr past ↦ get_or_past (replicate rules none) (rule - 1) none (omega (arith, past, length-replicate {A = RuleCounts} rules none))
        ])
