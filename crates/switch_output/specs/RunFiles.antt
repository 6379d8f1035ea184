-- The files of a run: those of its ports, its dumps, its flows, and those of its mirrors.
use Rattle.std.specs.Prelude.{ℕ, List, ◌++◌, codes}
use Rattle.spec_base.specs.Files.{File}
use Rattle.spec_pcap.specs.Pcap.{file_of}
use Rattle.spec_case.specs.Run.{Run, is_nanos}
use Rattle.spec_board.specs.Texts.{Journal, journals_text}
use Rattle.spec_run.specs.Rules.{rules_text}
use Rattle.spec_run.specs.Megaflows.{megaflows_text}
use Rattle.spec_netflow.specs.Datagrams.{netflow_bytes}
use Rattle.spec_run.specs.Journals.{actions_for}
use Rattle.spec_run.specs.Mirrored.{mirror_file_name, copies}
use Rattle.spec_run.specs.Outputs.{port_file_name, frames_out}
use Rattle.switch_output.specs.declared.run_file.RunFile.{RunFile}
use Rattle.switch_output.specs.declared.run_file.RunFile.TheVariants.{Port, Rules, Megaflows, Journal as Journals, Netflow, Mirror}

abbrev pub name_of : List ℕ → RunFile → List ℕ
name_of out (Port port) = port_file_name out port
name_of out Rules = out ++ codes ".rules"
name_of out Megaflows = out ++ codes ".megaflows"
name_of out Journals = out ++ codes ".journal"
name_of out Netflow = out ++ codes ".netflow"
name_of out (Mirror number mirror) = mirror_file_name out number

abbrev pub bytes_of : Run → List Journal → RunFile → List ℕ
bytes_of run journals (Port port) = file_of (is_nanos run) (frames_out run journals port)
bytes_of run journals Rules = rules_text run journals
bytes_of run journals Megaflows = megaflows_text run journals
bytes_of run journals Journals = journals_text journals
bytes_of run journals Netflow = netflow_bytes run (actions_for run journals)
bytes_of run journals (Mirror number mirror) = file_of (is_nanos run) (copies run journals mirror.now)

abbrev pub run_file : List ℕ → Run → List Journal → RunFile → File
run_file out run journals file = (name_of out file, bytes_of run journals file)
