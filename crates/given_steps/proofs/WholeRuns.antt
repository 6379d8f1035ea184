-- Boards after given steps, and the whole schedule of a run.
use Rattle.std.proofs.Common.{◌≡◌, ℕ, zero, suc, List, [], ◌∷◌, length, map, get_or, slice_index_or, All, refl, sym, ap, ◌∙◌}
use Rattle.std.proofs.lemmas.List.{get_or-map, length-map}
use Rattle.std.proofs.lemmas.Simd.{map-map}
use Rattle.spec_case.specs.declared.run_step.RunStep.{RunStep}
use Rattle.spec_case.specs.Run.{Run}
use Rattle.spec_case.specs.Blocks.{last_block}
use Rattle.spec_board.specs.Schedules as schedules
use Rattle.spec_board.specs.GivenSteps.{with_given_steps}
use Rattle.spec_board.specs.Scheduled as whole_runs
use Rattle.spec_run.specs.Journals.{scheduled_journals}
use Rattle.pmd_board.specs.BoardView.{BoardView}
use Rattle.run_boards.specs.Scheduled.{under_way, schedule_of, block_to_finish, IsNew}
use Rattle.run_boards.specs.Boards.{AreBoards}
use Rattle.run_boards.specs.Finished.{journals_in}
use Rattle.run_boards.proofs.BoardLists.{ports_of}
use Rattle.given_steps.specs.ScheduledViews.{ScheduledView, scheduled}
use Rattle.given_steps.specs.Running.{AreOfPorts, block_of_all, without_kept}
use Rattle.given_steps.proofs.GivenUp.{given_up, least_kept, journals_kept, finish_unmet}
use Rattle.given_steps.proofs.StepLaws.{steps_none}

-- ---- boards before given steps

abbrev pub new_view : BoardView → ScheduledView
new_view b = record { board = b; snaps = []; checks = [] }

pub new_ports : (run : Run) (limit : ℕ) (boards : List BoardView) → AreBoards run limit boards → AreOfPorts run (map new_view boards)
new_ports run limit boards are = map-map (λ (b : ScheduledView). b.board.port) new_view boards ∙ ports_of run limit boards are

pub new_same : (run : Run) (boards : List BoardView) → map (scheduled run) (map new_view boards) ≡ map (under_way run) boards
new_same run boards = map-map (scheduled run) new_view boards

-- ---- boards after given steps

abbrev pub board_in : ScheduledView → BoardView
board_in b = b.board

pub are_boards : (run : Run) (limit : ℕ) (list : List ScheduledView) → AreOfPorts run list → All (λ (b : BoardView). b.flow_limit ≡ limit) (map board_in list) → AreBoards run limit (map board_in list)
are_boards run limit list are limits =
    let boards : List BoardView = map board_in list in
    let ports : map (λ (b : BoardView). b.port) boards ≡ run.ports = map-map (λ (b : BoardView). b.port) board_in list ∙ are in record {
      one_each = sym (length-map boards (λ (b : BoardView). b.port)) ∙ ap length ports;
      each = λ k d within. record {
        of_port = sym (get_or-map (λ (b : BoardView). b.port) boards k d 0 within) ∙ ap (λ ps. slice_index_or ps k 0) ports;
        has_limit = limits k d within;
      };
    }

pub left_of : (run : Run) (list : List ScheduledView) → map (under_way run) (map board_in list) ≡ map without_kept (map (scheduled run) list)
left_of run list = map-map (under_way run) board_in list ∙ sym (map-map without_kept (scheduled run) list)

-- the least block is that of the boards that took the steps
pub left_least : (run : Run) (list : List ScheduledView) (left : List BoardView) → map (under_way run) left ≡ map without_kept (map (scheduled run) list) → block_to_finish run left ≡ block_of_all run list
left_least run list left is = ap (schedules.least_block (last_block run)) is ∙ least_kept (last_block run) (map (scheduled run) list)

-- ---- the whole schedule

abbrev pub given_from : Run → List RunStep → ℕ → List BoardView → schedules.Schedule
given_from run steps newest boards = with_given_steps run steps (schedule_of run newest boards)

module _ (run : Run) (steps : List RunStep) (old new : ℕ) (boards left : List BoardView) (begins : schedule_of run old boards ≡ schedules.new_schedule run) (given : steps ≡ run.steps) where
  whole : schedules.finish run (given_from run steps old boards) ≡ whole_runs.scheduled run
  whole = ap (λ s. schedules.finish run (with_given_steps run steps s)) begins ∙ ap (λ xs. schedules.finish run (with_given_steps run xs (schedules.new_schedule run))) given

  pub as_scheduled : new ≡ (given_from run steps old boards).newest → map (under_way run) left ≡ map without_kept (given_from run steps old boards).boards
      → journals_in (schedules.finish run (schedule_of run new left)) ≡ scheduled_journals run
  as_scheduled newest are =
      let s = given_from run steps old boards in
      let at : ℕ → List schedules.Board → schedules.Schedule = λ n bs. record { newest = n; boards = bs; unmet = 0 } in
      let is : schedule_of run new left ≡ given_up s = ap (λ n. at n (map (under_way run) left)) newest ∙ ap (at s.newest) are in
      ap (λ x. journals_in (schedules.finish run x)) is ∙ journals_kept run s ∙ ap journals_in whole

  pub unmet_is : (given_from run steps old boards).unmet ≡ (whole_runs.scheduled run).unmet
  unmet_is = sym (finish_unmet run (given_from run steps old boards)) ∙ ap (λ (s : schedules.Schedule). s.unmet) whole

  -- where no steps are given the boards are new afterwards
  none_at : (ports : List ℕ) (k : ℕ) → get_or (map (λ (b : schedules.Board). b.steps) (map without_kept (map (schedules.new_board run) ports))) k [] ≡ []
  none_at [] k = refl
  none_at (p ∷ ports) zero = refl
  none_at (p ∷ ports) (suc k) = none_at ports k

  pub left_new : run.steps ≡ [] → map (under_way run) left ≡ map without_kept (given_from run steps old boards).boards → AreBoards run run.flow_limit left → All (IsNew run.flow_limit) left
  left_new none is are = λ k d within. record {
    has_limit = (are.each k d within).has_limit;
    no_steps =
        sym (get_or-map (λ (b : BoardView). b.journal) left k d [] within)
        ∙ ap (λ xs. get_or xs k []) (sym (map-map (λ (b : schedules.Board). b.steps) (under_way run) left) ∙ ap (map (λ (b : schedules.Board). b.steps)) (is ∙ ap (map without_kept) still))
        ∙ none_at run.ports k;
  }
    where
      still : (given_from run steps old boards).boards ≡ map (schedules.new_board run) run.ports
      still =
          ap (λ (s : schedules.Schedule). s.boards) (ap (λ xs. with_given_steps run xs (schedule_of run old boards)) (given ∙ none) ∙ steps_none run (schedule_of run old boards) ∙ begins)
