-- One more of the given steps of a run.
use Rattle.std.proofs.Common.{◌≡◌, ℕ, ◌+◌, ◌≤◌, ◌<◌, Bool, true, false, List, length, take, get_or, sym, ap, ◌∙◌, arith}
use Rattle.std.proofs.lemmas.List.{take_more}
use Rattle.spec_case.specs.declared.run_step.RunStep.{RunStep}
use Rattle.spec_case.specs.Run.{Run}
use Rattle.spec_board.specs.Schedules.{Schedule}
use Rattle.spec_board.specs.GivenSteps.{counted, port_of, with_given_steps, with_step_at}
use Rattle.given_steps.specs.ScheduledViews.{ScheduledView}
use Rattle.given_steps.specs.ByNumber.{all_by_number}
use Rattle.given_steps.specs.Running.{schedule_in}
use Rattle.given_steps.proofs.ByNumber.{schedules_alike}
use Rattle.given_steps.proofs.StepLaws.{steps_more}

pub one_more : (run : Run) (steps : List RunStep) (i : ℕ) (d : RunStep) (start : Schedule) (old new unmet more : ℕ) (met : Bool) (before after : List ScheduledView)
    → i < length steps → more ≡ counted met unmet
    → all_by_number (schedule_in run old unmet before) ≡ all_by_number (with_given_steps run (take i steps) start)
    → ((n : ℕ) → all_by_number (schedule_in run new (counted met n) after) ≡ all_by_number (with_step_at run (get_or steps i d) (port_of (get_or steps i d)) (schedule_in run old n before)))
    → all_by_number (schedule_in run new more after) ≡ all_by_number (with_given_steps run (take (i + 1) steps) start)
one_more run steps i d start old new unmet more met before after within is so_far taken =
    let step = get_or steps i d in
    ap (λ n. all_by_number (schedule_in run new n after)) is
    ∙ taken unmet
    ∙ schedules_alike run step (port_of step) (schedule_in run old unmet before) (with_given_steps run (take i steps) start) so_far
    ∙ ap all_by_number (sym (ap (λ xs. with_given_steps run xs start) (take_more steps i d within) ∙ steps_more run (take i steps) step start))

-- so many steps are unmet at most
pub few_more : (met : Bool) (unmet more i : ℕ) → more ≡ counted met unmet → unmet ≤ i → more ≤ i + 1
few_more true unmet more i is few = omega (arith, is, few)
few_more false unmet more i is few = omega (arith, is, few)
