use Rattle.std.proofs.Common.{◌≡◌, ℕ, ◌+◌, ◌-◌, ◌<◌, List, ◌∷◌, length, drop, sym, ap, ap₂, subst, ◌∙◌, arith}
use Rattle.std.specs.Prelude.{slice_index, slice_index_or, All}
use Rattle.std.proofs.lemmas.List.{length-map}
use Rattle.spec_board.specs.State.{Total}
use Rattle.spec_board.specs.Effects.{credited}
use Rattle.spec_run.specs.declared.rule_counts.RuleCounts.{RuleCounts}
use Rattle.port_caches.specs.Sums.{total_of, IsRule}
use Rattle.flow_dump.specs.Sums.{Fits, sum_view, sums_view}
use Rattle.port_caches.proofs.stats.Credits.{drop-visits, with_more}
use Rattle.flow_dump.proofs.sums.Adding.{fits_once, total_of-counts, credited-counts}
use Rattle.flow_dump.proofs.sums.sums.add_visits.Goals as goal

-- What holds before each visit: its number is that of a rule, and what it comes to can be counted.
module _ (old counts : List RuleCounts) (visits : List ℕ) (i packets bytes : ℕ) (within : i < length visits) (long : length counts ≡ length old)
    (are_rules : All (IsRule (sums_view old)) visits) where
  rule_here : IsRule (sums_view counts) (slice_index visits i)
  rule_here =
      let before = are_rules i 0 within in
      let olds = length-map old sum_view in
      let news = length-map counts sum_view in
      record { first = before.first; last = omega (arith, before.last, olds, news, long) }

  fits_here : ((rule : ℕ) → credited (drop i visits) packets bytes (total_of (sums_view counts)) rule ≡ credited visits packets bytes (total_of (sums_view old)) rule)
      → ((rule : ℕ) → Fits (credited visits packets bytes (total_of (sums_view old)) rule))
      → Fits (with_more packets bytes (sum_view (slice_index_or counts (slice_index visits i - 1) (record { packets = 0; bytes = 0 }))))
  fits_here leads all =
      let v = slice_index visits i in
      let is : credited (v ∷ drop (i + 1) visits) packets bytes (total_of (sums_view counts)) v ≡ credited visits packets bytes (total_of (sums_view old)) v =
      ap (λ (vs : List ℕ). credited vs packets bytes (total_of (sums_view counts)) v) (sym (drop-visits visits i within)) ∙ leads v in
      let once = fits_once (sums_view counts) v (drop (i + 1) visits) packets bytes (subst (λ (t : Total). Fits t) (sym is) (all v)) in
      subst (λ (t : Total). Fits (with_more packets bytes t)) (total_of-counts counts v rule_here) once

pub overflow_add-counts : goal.overflow_add-counts
overflow_add-counts c =
    let here = fits_here c.args.counts.now c.loop-rule.counts c.args.visits.now c.loop-rule.rule-index c.args.packets c.args.bytes
    c.loop-rule-test.true c.loop-rule.auto.counts c.requires.rules c.loop-rule.invariant c.requires.fits in
    omega (arith, here.packets)

pub overflow_add-counts-in-loop-rule : goal.overflow_add-counts-in-loop-rule
overflow_add-counts-in-loop-rule c =
    let here = fits_here c.args.counts.now c.loop-rule.counts c.args.visits.now c.loop-rule.rule-index c.args.packets c.args.bytes
    c.loop-rule-test.true c.loop-rule.auto.counts c.requires.rules c.loop-rule.invariant c.requires.fits in
    omega (arith, here.bytes)

pub loop-rule-preserved : goal.loop-rule-preserved
loop-rule-preserved c rule =
    let counts = c.loop-rule.counts in
    let visits = c.args.visits.now in
    let here = rule_here c.args.counts.now counts visits c.loop-rule.rule-index c.args.packets c.args.bytes c.loop-rule-test.true c.loop-rule.auto.counts c.requires.rules in
    credited-counts counts _ here _ (drop (c.loop-rule.rule-index + 1) visits) c.args.packets c.args.bytes rule
    (ap₂ (λ p b. with_more p b (sum_view (slice_index_or counts (slice_index visits c.loop-rule.rule-index - 1) (record { packets = 0; bytes = 0 })))) c.from.ensures c.from-in-loop-rule.ensures)
    ∙ ap (λ (vs : List ℕ). credited vs c.args.packets c.args.bytes (total_of (sums_view counts)) rule) (sym (drop-visits visits c.loop-rule.rule-index c.loop-rule-test.true))
    ∙ c.loop-rule.invariant rule
