-- Runs with workers: their journals, and what is told of given steps.
use Rattle.std.proofs.Common.{◌≡◌, ℕ, ◌≤◌, List, Option, Some, None, refl, arith}
use Rattle.std.specs.Prelude.{IfSome}
use Rattle.std.specs.Option.{is_some}
use Rattle.std.specs.Borrow.{Bor}
use Rattle.spec_case.specs.Run.{Run}
use Rattle.spec_board.specs.Texts.{Journal}
use Rattle.spec_run.specs.Journals.{AreWhole, AreJournals}
use Rattle.spec_run.specs.Outputs.{has_steps, ran_of}
use Rattle.board_laws.proofs.Alike.{all_by_last}
use Rattle.command_words.specs.declared.reading.Input.{Input}
use Rattle.command_words.specs.declared.reading.Input.TheVariants.{Files, Made}
use Rattle.command_words.specs.CommandViews.{text_view, input_view, IfSteps}

-- Those that are whole are journals of a run with some workers.
pub by_workers : (workers : ℕ) (run : Run) (journals : List Journal) → 1 ≤ workers → AreWhole run journals → AreJournals workers run journals
by_workers workers run journals some whole = record {
  are_whole = whole;
  as_scheduled = λ none. absurd (omega (arith, some, none));
  by_last_version = λ none. absurd (omega (arith, some, none));
  apart = λ apart. all_by_last run journals apart whole;
}

-- No steps are given then.
pub no_steps : (workers : ℕ) (input : Input) (run : Run) → 1 ≤ workers → IfSteps input (workers ≡ 0) → ran_of (has_steps (input_view input)) run ≡ None
no_steps workers (Made number) run some alone = refl
no_steps workers (Files f) run some alone = by_steps f.steps alone
  where
    by_steps : (steps : Option (Bor (List ℕ))) → IfSome steps (λ _. workers ≡ 0) → ran_of (is_some (text_view steps)) run ≡ None
    by_steps (Some name) alone = absurd (omega (arith, some, alone))
    by_steps None alone = refl
