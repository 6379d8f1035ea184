-- The exit statuses of a comparison, and the texts that are printed with them: those of the switch, and one more.
use Rattle.std.specs.Prelude.{◌≡◌, ℕ, Bool, List, [], ◌∷◌, ◌++◌, Err, codes}
use Rattle.std.specs.Fmt.{decimal}
use Rattle.spec_board.specs.Texts.{line_of}
use Rattle.spec_run.specs.Verdict.{Files}
use Rattle.spec_run.specs.Statuses as run
use Rattle.spec_run.specs.Statuses.{done_status, usage_status, Prints}
use Rattle.spec_tools.specs.Lines.{Line}
use Rattle.spec_tools.specs.Progress.{cube_limit}
use Rattle.spec_tools.specs.DiffVerdict.{Refusal, Usage, Input, verdict}

-- some packet is treated differently
abbrev pub differ_status : ℕ
differ_status = 1

-- the status of a comparison whose lines are these
abbrev pub found_status : List Line → ℕ
found_status [] = done_status
found_status (l ∷ lines) = differ_status

-- which words the program takes
abbrev pub usage_text : List ℕ
usage_text = line_of (codes "usage: megadiff [--brief] OLD NEW PORT...")

-- there are more cubes than are looked into
abbrev pub cubes_text : List ℕ
cubes_text = line_of (codes "limit: cubes " ++ decimal cube_limit)

-- the status that a refusal ends with
abbrev pub status_of : Refusal → ℕ
status_of Usage = usage_status
status_of (Input r) = run.status_of r

-- the text that is printed with it
abbrev pub text_of : Refusal → List ℕ
text_of Usage = usage_text
text_of (Input r) = run.text_of r

-- whether a status tells that the words or a file of edits is refused
abbrev pub is_refusal : ℕ → Bool
is_refusal status = run.is_refusal status

-- The verdict is a refusal that ends with this status.
pub record IsRefused (words : List (List ℕ)) (files : Files) (status : ℕ) : Type 0 where
  pub refusal : Refusal
  pub is_verdict : verdict words files ≡ Err refusal
  pub is_status : status_of refusal ≡ status

-- The verdict is a refusal, and the text that tells it was printed.
pub record PrintsRefusal (words : List (List ℕ)) (files : Files) (needs_memory : Bool) (faults_before faults_now : ℕ) (before now : List ℕ) : Type 0 where
  pub refusal : Refusal
  pub is_verdict : verdict words files ≡ Err refusal
  pub printed : Prints needs_memory faults_before faults_now before now (text_of refusal)
