use Rattle.std.proofs.Common.{◌≡◌, ℕ, ◌+◌, ◌-◌, ◌<◌, List, ◌∷◌, length, drop, refl, sym, ap, subst, ◌∙◌, arith}
use Rattle.std.specs.Prelude.{slice_index, slice_index_or, All}
use Rattle.std.proofs.lemmas.List.{length-map}
use Rattle.spec_board.specs.State.{Total}
use Rattle.spec_board.specs.Effects.{credited}
use Rattle.port_caches.specs.declared.stats.counts.Counts.{Counts}
use Rattle.port_caches.specs.Sums.{total_of, total_view, totals_view, IsRule, IsCountable}
use Rattle.port_caches.proofs.stats.Credits.{drop-visits, with_more, countable_once, total_of-counts, credited-counts}
use Rattle.port_caches.proofs.stats.totals.credit_each.Goals as goal

-- What holds before each visit: its number is that of a rule, and what it comes to can be counted.
module _ (old counts : List Counts) (visits : List ℕ) (i packets bytes : ℕ) (within : i < length visits) (long : length counts ≡ length old)
    (are_rules : All (IsRule (totals_view old)) visits) where
  rule_here : IsRule (totals_view counts) (slice_index visits i)
  rule_here =
      let before = are_rules i 0 within in
      let olds = length-map old total_view in
      let news = length-map counts total_view in
      record { first = before.first; last = omega (arith, before.last, olds, news, long) }

  countable_here : ((rule : ℕ) → credited (drop i visits) packets bytes (total_of (totals_view counts)) rule ≡ credited visits packets bytes (total_of (totals_view old)) rule)
      → ((rule : ℕ) → IsCountable (credited visits packets bytes (total_of (totals_view old)) rule))
      → IsCountable (with_more packets bytes (total_view (slice_index_or counts (slice_index visits i - 1) (record { packets = 0; bytes = 0 }))))
  countable_here leads all =
      let v = slice_index visits i in
      let is : credited (v ∷ drop (i + 1) visits) packets bytes (total_of (totals_view counts)) v ≡ credited visits packets bytes (total_of (totals_view old)) v =
      ap (λ (vs : List ℕ). credited vs packets bytes (total_of (totals_view counts)) v) (sym (drop-visits visits i within)) ∙ leads v in
      let once = countable_once (totals_view counts) v (drop (i + 1) visits) packets bytes (subst (λ (t : Total). IsCountable t) (sym is) (all v)) in
      subst (λ (t : Total). IsCountable (with_more packets bytes t)) (total_of-counts counts v rule_here) once

pub overflow_add-counts : goal.overflow_add-counts
overflow_add-counts c =
    let here = countable_here c.args.counts.now c.loop-rule.counts c.args.visits.now c.loop-rule.rule-index c.args.packets c.args.bytes
    c.loop-rule-test.true c.loop-rule.auto.counts c.requires.rules c.loop-rule.invariant c.requires.countable in
    omega (arith, here.packets)

pub overflow_add-counts-in-loop-rule : goal.overflow_add-counts-in-loop-rule
overflow_add-counts-in-loop-rule c =
    let here = countable_here c.args.counts.now c.loop-rule.counts c.args.visits.now c.loop-rule.rule-index c.args.packets c.args.bytes
    c.loop-rule-test.true c.loop-rule.auto.counts c.requires.rules c.loop-rule.invariant c.requires.countable in
    omega (arith, here.bytes)

pub loop-rule-preserved : goal.loop-rule-preserved
loop-rule-preserved c rule =
    let counts = c.loop-rule.counts in
    let visits = c.args.visits.now in
    let here = rule_here c.args.counts.now counts visits c.loop-rule.rule-index c.args.packets c.args.bytes c.loop-rule-test.true c.loop-rule.auto.counts c.requires.rules in
    credited-counts counts _ here _ (drop (c.loop-rule.rule-index + 1) visits) c.args.packets c.args.bytes rule refl
    ∙ ap (λ (vs : List ℕ). credited vs c.args.packets c.args.bytes (total_of (totals_view counts)) rule) (sym (drop-visits visits c.loop-rule.rule-index c.loop-rule-test.true))
    ∙ c.loop-rule.invariant rule
