-- The summary of a run: what is counted over all of its ports.
use Rattle.std.specs.Prelude.{ℕ, ◌+◌, ◌==◌, Bool, true, false, List, [], ◌∷◌, ◌++◌, length, count_by, Option, Some, None, codes}
use Rattle.std.specs.List.{sum_by, range_with_len, join_with_byte}
use Rattle.std.specs.Fmt.{decimal}
use Rattle.spec_flow_text.specs.Characters.{space}
use Rattle.spec_actions.specs.declared.action.DpAction.{DpAction}
use Rattle.spec_case.specs.Run.{Run, frames_of, frame_at, edit_count}
use Rattle.spec_case.specs.Blocks.{last_block}
use Rattle.spec_board.specs.declared.looked.Looked.TheVariants.{Exact, Mega, Miss}
use Rattle.spec_board.specs.Steps.{Step, Look, Settle, Present, Full, Installed}
use Rattle.spec_board.specs.Decisions.{Decision, decision_of}
use Rattle.spec_board.specs.Texts.{Journal, line_of}
use Rattle.spec_exec.specs.Sent.{Piece, sent}
use Rattle.spec_run.specs.declared.ran.Ran.{Ran}
use Rattle.spec_run.specs.Rules.{end_of}
use Rattle.spec_run.specs.Megaflows.{told}

-- ---- steps

abbrev pub is_exact : Step → Bool
is_exact (Look place (Exact n)) = true
is_exact step = false

abbrev pub is_mega : Step → Bool
is_mega (Look place (Mega n)) = true
is_mega step = false

abbrev pub is_miss : Step → Bool
is_miss (Look place Miss) = true
is_miss step = false

abbrev pub is_installed : Step → Bool
is_installed (Settle place v (Installed n dropped)) = true
is_installed step = false

abbrev pub is_present : Step → Bool
is_present (Settle place v (Present n)) = true
is_present step = false

abbrev pub is_full : Step → Bool
is_full (Settle place v Full) = true
is_full step = false

-- how many steps of all journals are such ones
abbrev pub count_steps : (Step → Bool) → List Journal → ℕ
count_steps test journals = sum_by (λ (j : Journal). count_by test j.steps) journals

-- ---- frames

-- the places of a journal's trace
abbrev pub places_of : Run → Journal → List ℕ
places_of run j = range_with_len 1 (length (frames_of run j.port))

abbrev pub decided : Option Decision → List DpAction
decided (Some d) = d.actions
decided None = []

-- what the frame of a place is sent as, wherever it goes
abbrev pub pieces_of : Run → Journal → ℕ → List Piece
pieces_of run j place = sent (decided (decision_of run j.port j.steps place)) (frame_at run j.port place).bytes

-- how often the frames of a journal are sent, and how many of them are sent nowhere
abbrev pub sent_by : Run → Journal → ℕ
sent_by run j = sum_by (λ place. length (pieces_of run j place)) (places_of run j)

abbrev pub dropped_by : Run → Journal → ℕ
dropped_by run j = count_by (λ place. length (pieces_of run j place) == 0) (places_of run j)

abbrev pub sent_count : Run → List Journal → ℕ
sent_count run journals = sum_by (sent_by run) journals

abbrev pub dropped_count : Run → List Journal → ℕ
dropped_count run journals = sum_by (dropped_by run) journals

abbrev pub frame_count : Run → ℕ
frame_count run = sum_by (λ port. length (frames_of run port)) run.ports

-- the megaflows that stand at the end
abbrev pub megaflow_count : Run → List Journal → ℕ
megaflow_count run journals = sum_by (λ (j : Journal). length (end_of run j).entries) journals

-- ---- lines

abbrev pub count : List ℕ → ℕ → List ℕ
count name n = told name (decimal n)

abbrev pub counts_line : List (List ℕ) → List ℕ
counts_line counts = line_of (join_with_byte space counts)

abbrev pub run_line : Run → List ℕ
run_line run =
    counts_line (count (codes "ports") (length run.ports) ∷ count (codes "frames") (frame_count run)
    ∷ count (codes "edits") (edit_count run) ∷ count (codes "blocks") (last_block run + 1) ∷ [])

abbrev pub looks_line : List Journal → List ℕ
looks_line journals =
    counts_line (count (codes "exact") (count_steps is_exact journals) ∷ count (codes "mega") (count_steps is_mega journals)
    ∷ count (codes "miss") (count_steps is_miss journals) ∷ [])

abbrev pub settles_line : List Journal → List ℕ
settles_line journals =
    counts_line (count (codes "installed") (count_steps is_installed journals) ∷ count (codes "present") (count_steps is_present journals)
    ∷ count (codes "full") (count_steps is_full journals) ∷ [])

abbrev pub sent_line : Run → List Journal → List ℕ
sent_line run journals =
    counts_line (count (codes "sent") (sent_count run journals) ∷ count (codes "dropped") (dropped_count run journals)
    ∷ count (codes "entries") (megaflow_count run journals) ∷ [])

abbrev pub given_line : Option Ran → List ℕ
given_line None = []
given_line (Some ran) = counts_line (count (codes "steps") ran.steps ∷ count (codes "unmet") ran.unmet ∷ [])

-- the summary of a run, by its journals, with a line for the steps where a schedule was given
abbrev pub summary : Run → List Journal → Option Ran → List ℕ
summary run journals ran =
    run_line run ++ (looks_line journals ++ (settles_line journals ++ (sent_line run journals ++ given_line ran)))
