-- The exit statuses of a trace, and the texts that are printed with them: those of the switch, and one more.
use Rattle.std.specs.Prelude.{◌≡◌, ℕ, Bool, ◌||◌, ◌==◌, List, ◌++◌, Err, codes}
use Rattle.std.specs.Fmt.{decimal}
use Rattle.spec_board.specs.Texts.{line_of}
use Rattle.spec_run.specs.Verdict.{Files}
use Rattle.spec_run.specs.Statuses as run
use Rattle.spec_run.specs.Statuses.{usage_status, Prints}
use Rattle.spec_tools.specs.TraceVerdict.{Refusal, Usage, Input, NoPort, verdict}

-- the flow's port is none of the switch
abbrev pub no_port_status : ℕ
no_port_status = 10

-- which words the program takes
abbrev pub usage_text : List ℕ
usage_text = line_of (codes "usage: megatrace EDITS FLOW PORTS")

abbrev pub no_port_text : ℕ → List ℕ
no_port_text port = codes "no such port: " ++ line_of (decimal port)

-- the status that a refusal ends with
abbrev pub status_of : Refusal → ℕ
status_of Usage = usage_status
status_of (Input r) = run.status_of r
status_of (NoPort port) = no_port_status

-- the text that is printed with it
abbrev pub text_of : Refusal → List ℕ
text_of Usage = usage_text
text_of (Input r) = run.text_of r
text_of (NoPort port) = no_port_text port

-- whether a status tells that the words, the file of edits or the flow is refused
abbrev pub is_refusal : ℕ → Bool
is_refusal status = run.is_refusal status || (status == no_port_status)

-- The verdict is a refusal that ends with this status.
pub record IsRefused (words : List (List ℕ)) (files : Files) (status : ℕ) : Type 0 where
  pub refusal : Refusal
  pub is_verdict : verdict words files ≡ Err refusal
  pub is_status : status_of refusal ≡ status

-- The verdict is a refusal, and the text that tells it was printed.
pub record PrintsRefusal (words : List (List ℕ)) (files : Files) (needs_memory : Bool) (faults_before faults_now : ℕ) (before now : List ℕ) : Type 0 where
  pub refusal : Refusal
  pub is_verdict : verdict words files ≡ Err refusal
  pub printed : Prints needs_memory faults_before faults_now before now (text_of refusal)
