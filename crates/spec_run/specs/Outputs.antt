-- What a run writes: files, and a summary that is printed.
use Rattle.std.specs.Prelude.{◌≡◌, ℕ, ◌==◌, Bool, true, false, IsTrue, List, [], ◌∷◌, ◌++◌, length, map, filter, Option, Some, None, Ok, codes}
use Rattle.std.specs.Option.{is_some}
use Rattle.std.specs.List.{flat_map}
use Rattle.std.specs.Fmt.{decimal}
use Rattle.spec_base.specs.Files.{File}
use Rattle.spec_pcap.specs.Pcap.{Frame, file_of}
use Rattle.spec_actions.specs.declared.action.DpAction.{DpAction}
use Rattle.spec_case.specs.declared.arrival.Arrival.{Arrival}
use Rattle.spec_case.specs.Run.{Run, frame_at, is_nanos}
use Rattle.spec_case.specs.Arrivals.{arrivals, in_order}
use Rattle.spec_board.specs.Scheduled.{scheduled}
use Rattle.spec_board.specs.Texts.{Journal, journals_text}
use Rattle.spec_input.specs.Words.{Input, Files as Named, Made}
use Rattle.spec_netflow.specs.Datagrams.{netflow_file}
use Rattle.spec_input.specs.Mirrors.{Mirror}
use Rattle.spec_run.specs.declared.ran.Ran.{Ran}
use Rattle.spec_run.specs.Rules.{rules_text}
use Rattle.spec_run.specs.Megaflows.{megaflows_text}
use Rattle.spec_run.specs.Summary.{summary}
use Rattle.spec_exec.specs.Sent.{Piece, sent}
use Rattle.spec_run.specs.Journals.{AreJournals, actions_for}
use Rattle.spec_run.specs.Mirrored.{mirror_files}
use Rattle.spec_run.specs.Verdict.{Files, Accepted, verdict}

-- the pieces of an arrived frame that these actions send out at a port, with the frame's time
abbrev pub frames_by : Run → List DpAction → ℕ → Arrival → List Frame
frames_by run actions port a =
    map (λ (p : Piece). record { time = (frame_at run a.port a.place).time; bytes = p.bytes })
    (filter (λ (p : Piece). p.port == port) (sent actions (frame_at run a.port a.place).bytes))

-- those that the actions send which the journals decided
abbrev pub sent_to : Run → List Journal → ℕ → Arrival → List Frame
sent_to run journals port a = frames_by run (actions_for run journals a.port a.place) port a

-- what goes out at a port: sorted by time, ingress port, place in its trace and position in the actions
abbrev pub frames_out : Run → List Journal → ℕ → List Frame
frames_out run journals port = flat_map (sent_to run journals port) (in_order (arrivals run))

-- OUT.pN.pcap
abbrev pub port_file_name : List ℕ → ℕ → List ℕ
port_file_name out port = out ++ (codes ".p" ++ (decimal port ++ codes ".pcap"))

-- the file of a port, in nanoseconds where a trace that came in is
abbrev pub port_file : List ℕ → Run → List Journal → ℕ → File
port_file out run journals port = (port_file_name out port, file_of (is_nanos run) (frames_out run journals port))

-- OUT.rules, OUT.megaflows and OUT.journal
abbrev pub rules_file : List ℕ → Run → List Journal → File
rules_file out run journals = (out ++ codes ".rules", rules_text run journals)

abbrev pub megaflows_file : List ℕ → Run → List Journal → File
megaflows_file out run journals = (out ++ codes ".megaflows", megaflows_text run journals)

abbrev pub journal_file : List ℕ → List Journal → File
journal_file out journals = (out ++ codes ".journal", journals_text journals)

-- OUT.netflow, where the flows are written
abbrev pub netflow_files : List ℕ → Bool → Run → List Journal → List File
netflow_files out true run journals = netflow_file out run (actions_for run journals) ∷ []
netflow_files out false run journals = []

-- What is written of a run: the begin of the names of its files, whether the flows are, and the mirrors, of which the copies
-- are.
pub record Outlets : Type 0 where
  pub out : List ℕ
  pub netflow : Bool
  pub mirrors : List Mirror

-- the files of a run by its journals: one for each port, in the order of the words, then its rules, its megaflows and the
-- journals themselves, then its flows where they are written, and one for each mirror
abbrev pub files_of : Outlets → Run → List Journal → List File
files_of o run journals =
    map (port_file o.out run journals) run.ports
    ++ rules_file o.out run journals ∷ megaflows_file o.out run journals ∷ journal_file o.out journals
    ∷ (netflow_files o.out o.netflow run journals ++ mirror_files o.out run journals o.mirrors)

-- what is written, where something is: nothing is where a number makes what is read
abbrev pub outlets_of : Input → List Mirror → Option Outlets
outlets_of (Named f) mirrors = Some (record { out = f.out; netflow = f.netflow; mirrors = mirrors })
outlets_of (Made number) mirrors = None

abbrev pub output_of : Option Outlets → Run → List Journal → List File
output_of None run journals = []
output_of (Some outlets) run journals = files_of outlets run journals

-- whether steps are given
abbrev pub has_steps : Input → Bool
has_steps (Named f) = is_some f.steps
has_steps (Made number) = false

-- what is told of given steps: how many they are, and how many of them were not met
abbrev pub ran_of : Bool → Run → Option Ran
ran_of true run = Some (record { steps = length run.steps; unmet = (scheduled run).unmet })
ran_of false run = None

-- The words and the files are accepted, and these are journals of the run.
pub record Decided (words : List (List ℕ)) (files : Files) : Type 0 where
  pub accepted : Accepted
  pub is_verdict : verdict words files ≡ Ok accepted
  pub journals : List Journal
  pub are_journals : AreJournals accepted.command.workers accepted.run journals

-- the files of such a run, and the summary that is printed
abbrev pub files_by : {words : List (List ℕ)} {files : Files} → Decided words files → List File
files_by d = output_of (outlets_of d.accepted.command.input d.accepted.mirrors) d.accepted.run d.journals

abbrev pub summary_by : {words : List (List ℕ)} {files : Files} → Decided words files → List ℕ
summary_by d = summary d.accepted.run d.journals (ran_of (has_steps d.accepted.command.input) d.accepted.run)

-- After the files written before exactly those of the run were written. After what was printed before, where that is told,
-- exactly its summary was printed.
pub record IsDone (words : List (List ℕ)) (files : Files) (before after : List File) (tells : Bool) (said said_now : List ℕ) : Type 0 where
  pub decided : Decided words files
  pub written : after ≡ before ++ files_by decided
  pub printed : IsTrue tells → said_now ≡ said ++ summary_by decided
