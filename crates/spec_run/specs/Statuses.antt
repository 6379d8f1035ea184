-- The exit statuses, and the texts that are printed with them.
use Rattle.std.specs.Prelude.{◌≡◌, ℕ, Bool, ◌||◌, ◌==◌, IsTrue, List, ◌∷◌, ◌++◌, take, Err, codes}
use Rattle.std.specs.Fmt.{decimal}
use Rattle.spec_base.specs.Counts.{Rose}
use Rattle.spec_pcap.specs.declared.fault.PcapFault.{PcapFault}
use Rattle.spec_pcap.specs.declared.fault.PcapFault.TheVariants.{ShortHeader, Magic, Version, LinkType, ShortRecord, TooLong, Fraction, TooManyFrames, OutOfMemory}
use Rattle.spec_flow_text.specs.Characters.{dot}
use Rattle.spec_board.specs.Texts.{line_of}
use Rattle.spec_flow_text.specs.declared.fault.TextFault.{TextFault}
use Rattle.spec_flow_text.specs.declared.fault.TextFault.TheVariants as text
use Rattle.spec_input.specs.declared.fault.FileFault.{FileFault}
use Rattle.spec_input.specs.declared.fault.FileFault.TheVariants as fault
use Rattle.spec_run.specs.declared.quantity.Quantity.{Quantity}
use Rattle.spec_run.specs.declared.quantity.Quantity.TheVariants.{Line, Edits, Syncs, Steps, Mirrors}
use Rattle.spec_run.specs.Limits.{limit_of, quantity_name}
use Rattle.spec_run.specs.Verdict.{Files, Refusal, Usage, Missing, Text, Trace, Limit, verdict}

-- all is done
abbrev pub done_status : ℕ
done_status = 0

-- the words are none that the program takes
abbrev pub usage_status : ℕ
usage_status = 2

-- the file of edits, the steps file or the mirrors file is wrong
abbrev pub text_status : ℕ
text_status = 3

-- a trace is no capture file that is read
abbrev pub trace_status : ℕ
trace_status = 4

-- reading failed, and writing did
abbrev pub read_fault_status : ℕ
read_fault_status = 5

abbrev pub write_fault_status : ℕ
write_fault_status = 6

-- a quantity is above its limit
abbrev pub limit_status : ℕ
limit_status = 7

-- out of memory
abbrev pub out_of_memory_status : ℕ
out_of_memory_status = 8

-- which words the program takes
abbrev pub usage_text : List ℕ
usage_text =
    line_of (codes "usage: megaswitch [--workers N] [--steps FILE] [--flow-limit N] [--netflow] [--mirrors FILE] EDITS OUT PORT=FILE...")

abbrev pub read_fault_text : List ℕ → List ℕ
read_fault_text name = line_of (codes "read fault: " ++ name)

abbrev pub write_fault_text : List ℕ → List ℕ
write_fault_text name = line_of (codes "write fault: " ++ name)

abbrev pub out_of_memory_text : List ℕ
out_of_memory_text = line_of (codes "out of memory")

-- what is wrong with a trace
abbrev pub reason : PcapFault → List ℕ
reason ShortHeader = codes "short header"
reason Magic = codes "magic"
reason (Version major minor) = codes "version " ++ (decimal major ++ dot ∷ decimal minor)
reason (LinkType n) = codes "link type " ++ decimal n
reason (ShortRecord at) = codes "short record at " ++ decimal at
reason (TooLong at n) = codes "too long at " ++ decimal at
reason (Fraction at) = codes "fraction at " ++ decimal at
reason TooManyFrames = codes "too many frames"
reason OutOfMemory = codes "out of memory"

abbrev pub limit_text : Quantity → List ℕ
limit_text q = line_of (codes "limit: " ++ (quantity_name q ++ (codes " " ++ decimal (limit_of q))))

-- what is wrong with a line of text
abbrev pub line_reason : TextFault → List ℕ
line_reason (text.Syntax col) = codes "syntax"
line_reason (text.UnknownName col) = codes "unknown name"
line_reason (text.Unsupported col) = codes "unsupported"
line_reason (text.BadValue col) = codes "bad value"
line_reason (text.Repeated col) = codes "repeated"
line_reason text.TooManyActions = codes "too many actions"
line_reason text.OutOfMemory = codes "out of memory"

-- the column at which it is found
abbrev pub column_of : TextFault → ℕ
column_of (text.Syntax col) = col
column_of (text.UnknownName col) = col
column_of (text.Unsupported col) = col
column_of (text.BadValue col) = col
column_of (text.Repeated col) = col
column_of text.TooManyActions = 1
column_of text.OutOfMemory = 1

-- a place in a file, and what is wrong there
abbrev pub place_text : List ℕ → ℕ → ℕ → List ℕ → List ℕ
place_text name line col reason =
    name ++ (codes ":" ++ (decimal line ++ (codes ":" ++ (decimal col ++ line_of (codes ": " ++ reason)))))

-- what is wrong with a file of lines
abbrev pub file_text : List ℕ → FileFault → List ℕ
file_text name (fault.Line line why) = place_text name line (column_of why) (line_reason why)
file_text name (fault.SyncOrder line) = place_text name line 1 (codes "sync order")
file_text name fault.LineTooLong = limit_text Line
file_text name fault.TooManyEdits = limit_text Edits
file_text name fault.TooManySyncs = limit_text Syncs
file_text name fault.TooManySteps = limit_text Steps
file_text name fault.TooManyMirrors = limit_text Mirrors
file_text name fault.OutOfMemory = out_of_memory_text

abbrev pub trace_text : List ℕ → PcapFault → List ℕ
trace_text name fault = name ++ line_of (codes ": " ++ reason fault)

-- ---- refusals

-- the status that a refusal ends with; a file that isn't there can't be opened, so that reading fails
abbrev pub status_of : Refusal → ℕ
status_of Usage = usage_status
status_of (Missing name) = read_fault_status
status_of (Text name why) = text_status
status_of (Trace name fault) = trace_status
status_of (Limit q) = limit_status

-- the text that is printed with it
abbrev pub text_of : Refusal → List ℕ
text_of Usage = usage_text
text_of (Missing name) = read_fault_text name
text_of (Text name why) = file_text name why
text_of (Trace name fault) = trace_text name fault
text_of (Limit q) = limit_text q

-- whether a status tells that the words or the files are refused
abbrev pub is_refusal : ℕ → Bool
is_refusal status =
    (status == usage_status)
    || ((status == text_status) || ((status == trace_status) || (status == limit_status)))

-- The verdict is a refusal that ends with this status.
pub record IsRefused (words : List (List ℕ)) (files : Files) (status : ℕ) : Type 0 where
  pub refusal : Refusal
  pub is_verdict : verdict words files ≡ Err refusal
  pub is_status : status_of refusal ≡ status

-- After what was printed before, this text was printed: a prefix of it, and all of it where the sink needs no memory and
-- its count of faults didn't rise.
pub record Prints (needs_memory : Bool) (faults_before faults_now : ℕ) (before now text : List ℕ) : Type 0 where
  pub prefix : (n : ℕ) × (now ≡ before ++ take n text)
  pub whole : ¬ IsTrue needs_memory → ¬ Rose faults_before faults_now → now ≡ before ++ text

-- The verdict is a refusal, and the text that tells it was printed.
pub record PrintsRefusal (words : List (List ℕ)) (files : Files) (needs_memory : Bool) (faults_before faults_now : ℕ) (before now : List ℕ) : Type 0 where
  pub refusal : Refusal
  pub is_verdict : verdict words files ≡ Err refusal
  pub printed : Prints needs_memory faults_before faults_now before now (text_of refusal)
