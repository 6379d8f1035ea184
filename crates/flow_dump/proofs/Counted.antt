-- Counts of steps, one after the other.
use Rattle.std.proofs.Common.{◌≡◌, ℕ, ◌+◌, ◌*◌, ◌^◌, ◌<◌, ◌≤◌, List, [], ◌∷◌, ◌++◌, length, get_or, take, refl, sym, ap, ◌∙◌, arith}
use Rattle.std.proofs.lemmas.List.{take_more, map-append}
use Rattle.std.proofs.lemmas.List.Sums.{sum_by_push, count_by-le-length}
use Rattle.spec_board.specs.Steps as specs
use Rattle.board_steps.specs.declared.step.Step.{Step}
use Rattle.board_steps.specs.StepViews.{step_view, steps_view}
use Rattle.spec_run.specs.Summary.{is_exact, is_mega, is_miss, is_installed, is_present, is_full}
use Rattle.flow_dump.specs.declared.step_counts.StepCounts.{StepCounts}
use Rattle.flow_dump.specs.StepCounts.{counts_of, with_step, plus, AreAtMost}

counts_of-push : (steps : List specs.Step) (step : specs.Step) → counts_of (steps ++ step ∷ []) ≡ with_step step (counts_of steps)
counts_of-push steps step = simp sum_by_push refl

pub views-more : (steps : List Step) (i : ℕ) (d : Step) → i < length steps → steps_view (take (i + 1) steps) ≡ steps_view (take i steps) ++ step_view (get_or steps i d) ∷ []
views-more steps i d within = ap steps_view (take_more steps i d within) ∙ map-append step_view (take i steps) (get_or steps i d ∷ [])

pub counts_of-more : (steps : List Step) (i : ℕ) (x : Step) → i < length steps → x ≡ get_or steps i x
    → counts_of (steps_view (take (i + 1) steps)) ≡ with_step (step_view x) (counts_of (steps_view (take i steps)))
counts_of-more steps i x within is =
    ap counts_of (views-more steps i x within) ∙ counts_of-push (steps_view (take i steps)) (step_view (get_or steps i x))
    ∙ ap (λ s. with_step (step_view s) (counts_of (steps_view (take i steps)))) (sym is)

-- there are no more of any kind than there are steps
pub few : (steps : List specs.Step) (most : ℕ) → length steps ≤ most → AreAtMost most (counts_of steps)
few steps most short = record {
  exact = omega (arith, count_by-le-length is_exact steps);
  mega = omega (arith, count_by-le-length is_mega steps);
  miss = omega (arith, count_by-le-length is_miss steps);
  installed = omega (arith, count_by-le-length is_installed steps);
  present = omega (arith, count_by-le-length is_present steps);
  full = omega (arith, count_by-le-length is_full steps);
}

-- nor do the counts of so many journals exceed so many times what those of one may be
pub few_more : (a b : StepCounts) (n : ℕ) → AreAtMost (n * 2 ^ 64) a → AreAtMost (2 ^ 64) b → AreAtMost ((n + 1) * 2 ^ 64) (plus a b)
few_more a b n of_all of_one = record {
  exact = omega (arith, of_all.exact, of_one.exact);
  mega = omega (arith, of_all.mega, of_one.mega);
  miss = omega (arith, of_all.miss, of_one.miss);
  installed = omega (arith, of_all.installed, of_one.installed);
  present = omega (arith, of_all.present, of_one.present);
  full = omega (arith, of_all.full, of_one.full);
}
