-- What is printed of a run that is done, with any number of workers.
use Rattle.std.specs.Prelude.{◌≡◌, ℕ, List, ◌++◌, Option, None, Ok}
use Rattle.spec_base.specs.Files.{lookup_or_empty}
use Rattle.spec_case.specs.Run.{Run}
use Rattle.spec_board.specs.Texts.{Journal}
use Rattle.spec_run.specs.declared.ran.Ran.{Ran}
use Rattle.spec_run.specs.Summary.{summary}
use Rattle.spec_run.specs.Verdict.{MirroredRun, run_in, made_list, made_sources}
use Rattle.spec_run.specs.Journals.{AreWhole}
use Rattle.output_laws.specs.Sums.{AddUp, summary_with, plain_sent, plain_dropped}

-- The summary of the run was printed, by whole journals, whose counts add up.
pub record PrintsSums (run : Run) (ran : Option Ran) (said saying : List ℕ) : Type 0 where
  pub journals : List Journal
  pub are_whole : AreWhole run journals
  pub printed : saying ≡ said ++ summary run journals ran
  pub add_up : AddUp run journals

-- It has these numbers of frames sent and dropped, whoever decided the frames.
pub record PrintsPlainly (run : Run) (ran : Option Ran) (said saying : List ℕ) : Type 0 where
  pub sums : PrintsSums run ran said saying
  pub printed : saying ≡ said ++ summary_with (plain_sent run) (plain_dropped run) run sums.journals ran

-- The run that a number makes is accepted, and its summary was printed: its first line, and the frames that are sent and
-- dropped, are of the number alone.
pub record PrintsMade (number flow_limit : ℕ) (said saying : List ℕ) : Type 0 where
  pub given : MirroredRun
  pub is_made : run_in (lookup_or_empty (made_list number)) flow_limit made_sources ≡ Ok given
  pub printed : PrintsPlainly given.run None said saying
