-- What is written of a step, and of a board.
use Rattle.std.proofs.Common.{◌≡◌, ℕ, ◌+◌, ◌<◌, List, [], ◌∷◌, ◌++◌, length, get_or, take, drop, ap, sym, ◌∙◌, add-one, append_assoc, append-nil, take-suc}
use Rattle.std.proofs.lemmas.List.{take-append-drop}
use Rattle.std.proofs.lemmas.Grind.{flat_map-append}
use Rattle.std.specs.List.{flat_map}
use Rattle.std.proofs.lemmas.List.Folds.{flat_map-map}
use Rattle.spec_case.specs.Run.{Run}
use Rattle.spec_board.specs.Texts.{line_of, step_text}
use Rattle.board_steps.specs.declared.step.Step.{Step}
use Rattle.board_steps.specs.StepViews.{step_view, steps_view}
use Rattle.pmd_board.specs.BoardView.{BoardView, journal_view, journals_view}
use Rattle.flow_dump.specs.declared.boards.OfBoard.{OfBoard}
use Rattle.flow_dump.specs.Boards.{board_text, dump_text}
use Rattle.flow_dump.specs.Lines.{steps_text}

abbrev pub line_of_step : Step → List ℕ
line_of_step step = line_of (step_text (step_view step))

abbrev pub text_of_board : OfBoard → Run → BoardView → List ℕ
text_of_board what run board = board_text what run (journal_view board)

pub steps_text-is : (steps : List Step) → steps_text (steps_view steps) ≡ flat_map line_of_step steps
steps_text-is steps = flat_map-map (λ step. line_of (step_text step)) step_view steps

pub dump_text-is : (what : OfBoard) (run : Run) (boards : List BoardView) → dump_text what run (journals_view boards) ≡ flat_map (text_of_board what run) boards
dump_text-is what run boards = flat_map-map (board_text what run) journal_view boards

-- the lines of the steps up to one, and that step's
pub lines_to : (steps : List Step) (i : ℕ) (d : Step) → i < length steps
    → flat_map line_of_step (take (i + 1) steps) ≡ flat_map line_of_step (take i steps) ++ line_of_step (get_or steps i d)
lines_to steps i d lt =
    rw add-one (ap (flat_map line_of_step) (take-suc steps i d lt))
    ∙ flat_map-append line_of_step (take i steps) (get_or steps i d ∷ [])
    ∙ ap (λ (xs : List ℕ). flat_map line_of_step (take i steps) ++ xs) (append-nil (line_of_step (get_or steps i d)))

-- To a text that ends with these the line of one more step is added.
pub lines_more : (steps : List Step) (i : ℕ) (d : Step) → i < length steps → (front before after : List ℕ)
    → before ≡ front ++ flat_map line_of_step (take i steps) → after ≡ before ++ line_of_step (get_or steps i d)
    → after ≡ front ++ flat_map line_of_step (take (i + 1) steps)
lines_more steps i d lt front before after was is =
    let line = line_of_step (get_or steps i d) in
    let lines = flat_map line_of_step (take i steps) in
    is ∙ ap (λ (t : List ℕ). t ++ line) was ∙ append_assoc front lines line
    ∙ ap (λ (t : List ℕ). front ++ t) (sym (lines_to steps i d lt))

-- the lines of some steps, and of others after them
pub lines_of_both : (steps others : List Step) → flat_map line_of_step (steps ++ others) ≡ flat_map line_of_step steps ++ flat_map line_of_step others
lines_of_both = flat_map-append line_of_step

-- the lines of all, about those between two places
pub lines_around : (steps : List Step) (i n : ℕ)
    → flat_map line_of_step steps
    ≡ flat_map line_of_step (take i steps) ++ (flat_map line_of_step (take n (drop i steps)) ++ flat_map line_of_step (drop n (drop i steps)))
lines_around steps i n =
    ap (flat_map line_of_step) (sym (take-append-drop i steps)) ∙ flat_map-append line_of_step (take i steps) (drop i steps)
    ∙ ap (λ (xs : List ℕ). flat_map line_of_step (take i steps) ++ xs)
    (ap (flat_map line_of_step) (sym (take-append-drop n (drop i steps))) ∙ flat_map-append line_of_step (take n (drop i steps)) (drop n (drop i steps)))
