-- What the counts of a summary have to do with each other, and with those of another summary of the run.
use Rattle.std.specs.Prelude.{◌≡◌, ℕ, ◌+◌, ◌==◌, List, [], ◌∷◌, ◌++◌, length, count_by, Option, codes}
use Rattle.std.specs.List.{sum_by, range_with_len}
use Rattle.spec_case.specs.Run.{Run, frames_of, frame_at}
use Rattle.spec_case.specs.Blocks.{hi, block_of}
use Rattle.spec_board.specs.Results.{key_at, translated}
use Rattle.spec_board.specs.Texts.{Journal}
use Rattle.spec_exec.specs.Sent.{Piece, sent}
use Rattle.spec_run.specs.declared.ran.Ran.{Ran}
use Rattle.spec_run.specs.Summary.{is_exact, is_mega, is_miss, is_installed, is_present, is_full, count_steps, sent_count, dropped_count, frame_count, megaflow_count, count, counts_line, run_line, looks_line, settles_line, given_line, summary}

-- Each frame was looked up once, and each that was missed was settled once.
pub record AddUp (run : Run) (journals : List Journal) : Type 0 where
  pub looks : count_steps is_exact journals + count_steps is_mega journals + count_steps is_miss journals
      ≡ frame_count run
  pub settles : count_steps is_installed journals + count_steps is_present journals + count_steps is_full journals
      ≡ count_steps is_miss journals

-- the summary with so many frames sent, and so many dropped
abbrev pub summary_with : ℕ → ℕ → Run → List Journal → Option Ran → List ℕ
summary_with sent dropped run journals ran =
    run_line run ++ (looks_line journals ++ (settles_line journals
    ++ (counts_line (count (codes "sent") sent ∷ count (codes "dropped") dropped
    ∷ count (codes "entries") (megaflow_count run journals) ∷ []) ++ given_line ran)))

-- The summaries of both tell as many frames sent, and as many dropped.
pub record SendAlike (run : Run) (a b : List Journal) : Type 0 where
  pub sent : sent_count run b ≡ sent_count run a
  pub dropped : dropped_count run b ≡ dropped_count run a
  pub summaries : (ran : Option Ran) → summary run b ran
      ≡ summary_with (sent_count run a) (dropped_count run a) run b ran

-- what the frame of a place is sent as, where the last version of its block decides it
abbrev pub plain_pieces : Run → ℕ → ℕ → List Piece
plain_pieces run port place =
    sent (translated run (hi run (block_of run port place)) (key_at run port place)).actions (frame_at run port place).bytes

-- how often the frames of a port are sent then, and how many of them are sent nowhere
abbrev pub plain_sent_by : Run → ℕ → ℕ
plain_sent_by run port = sum_by (λ place. length (plain_pieces run port place)) (range_with_len 1 (length (frames_of run port)))

abbrev pub plain_dropped_by : Run → ℕ → ℕ
plain_dropped_by run port =
    count_by (λ place. length (plain_pieces run port place) == 0) (range_with_len 1 (length (frames_of run port)))

-- and those of all ports: numbers of the run, whatever its journals are
abbrev pub plain_sent : Run → ℕ
plain_sent run = sum_by (plain_sent_by run) run.ports

abbrev pub plain_dropped : Run → ℕ
plain_dropped run = sum_by (plain_dropped_by run) run.ports

-- The summary by these journals tells these very numbers.
pub record SendPlainly (run : Run) (journals : List Journal) : Type 0 where
  pub sent : sent_count run journals ≡ plain_sent run
  pub dropped : dropped_count run journals ≡ plain_dropped run
  pub summaries : (ran : Option Ran) → summary run journals ran
      ≡ summary_with (plain_sent run) (plain_dropped run) run journals ran
