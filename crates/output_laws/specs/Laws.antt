-- What a run has to do with its parts.
use Rattle.std.specs.Prelude.{◌≡◌, ℕ, List, [], ◌∷◌, ◌++◌, map, drop, All}
use Rattle.std.specs.List.{flat_map, sum_by}
use Rattle.spec_pcap.specs.Pcap.{header_length}
use Rattle.spec_tables.specs.Rules.{Rule}
use Rattle.spec_case.specs.Run.{Run}
use Rattle.spec_board.specs.Texts.{Journal}
use Rattle.spec_input.specs.Mirrors.{Mirror}
use Rattle.spec_run.specs.Summary.{frame_count, sent_count, dropped_count}
use Rattle.spec_run.specs.declared.rule_counts.RuleCounts.{RuleCounts}
use Rattle.spec_run.specs.Rules.{packets_of, bytes_of, counts_of, in_order, rule_line_with, gone_line_with, live_rules, gone_rules, rules_text}
use Rattle.spec_netflow.specs.Flows.{packets, flows_of, of_class, packet_sum, octet_sum}
use Rattle.spec_run.specs.Journals.{HasEditsApart, AreWhole, actions_for}
use Rattle.spec_run.specs.Mirrored.{copies, mirror_file}
use Rattle.spec_run.specs.Outputs.{frames_out, port_file}
use Rattle.output_laws.specs.Parts.{parts, MayBeCutAt}
use Rattle.output_laws.specs.Classes.{class_times}

-- a run, and journals of it
pub record Part : Type 0 where
  pub run : Run
  pub journals : List Journal

-- No block of the run has both edits and frames. These are whole journals of it, and the parts have whole journals of
-- theirs.
pub record AreParts (times : List ℕ) (run : Run) (journals : List Journal) (cut : List Part) : Type 0 where
  pub apart : HasEditsApart run
  pub whole : AreWhole run journals
  pub runs : map (λ (p : Part). p.run) cut ≡ parts times run
  pub each : All (λ (p : Part). AreWhole p.run p.journals) cut

-- ---- files

-- a file of frames: the first of these files, and after it the records of the others
abbrev pub joined : List (List ℕ) → List ℕ
joined [] = []
joined (first ∷ others) = first ++ flat_map (drop header_length) others

-- What goes out at a port of the run goes out there in its parts, one after the other; and its file is joined from
-- theirs, whatever these are called.
pub record PortsFollow (run : Run) (journals : List Journal) (cut : List Part) : Type 0 where
  pub frames : (port : ℕ) → frames_out run journals port
      ≡ flat_map (λ (p : Part). frames_out p.run p.journals port) cut
  pub files : (out : List ℕ) (out_of : Part → List ℕ) (port : ℕ) → (port_file out run journals port).1
      ≡ joined (map (λ (p : Part). (port_file (out_of p) p.run p.journals port).1) cut)

-- So it is with what a mirror copies.
pub record MirrorsFollow (run : Run) (journals : List Journal) (cut : List Part) : Type 0 where
  pub frames : (m : Mirror) → copies run journals m ≡ flat_map (λ (p : Part). copies p.run p.journals m) cut
  pub files : (out : List ℕ) (out_of : Part → List ℕ) (number : ℕ) (m : Mirror)
      → (mirror_file out run journals number m).1
      ≡ joined (map (λ (p : Part). (mirror_file (out_of p) p.run p.journals number m).1) cut)

-- ---- rules

-- what a rule counted in all parts
abbrev pub counts_in : List Part → ℕ → RuleCounts
counts_in cut rule = record {
  packets = sum_by (λ (p : Part). packets_of p.run p.journals rule) cut;
  bytes = sum_by (λ (p : Part). bytes_of p.run p.journals rule) cut;
}

-- the dump of the rules of a run with these counts
abbrev pub dump_with : Run → (ℕ → RuleCounts) → List ℕ
dump_with run counts =
    flat_map (λ (r : Rule). rule_line_with (counts r.number) r) (in_order (live_rules run))
    ++ flat_map (λ rule. gone_line_with (counts rule) rule) (gone_rules run)

-- A rule counted in the run what it counted in the parts. The dump of a part is that of the run with the part's counts,
-- and that of the run has their sums.
pub record CountsAddUp (run : Run) (journals : List Journal) (cut : List Part) : Type 0 where
  pub counts : (rule : ℕ) → counts_of run journals rule ≡ counts_in cut rule
  pub dump : rules_text run journals ≡ dump_with run (counts_in cut)
  pub dumps : All (λ (p : Part). rules_text p.run p.journals ≡ dump_with run (counts_of p.run p.journals)) cut

-- ---- summaries

-- The summary tells as many frames, and as many sent and dropped, as those of the parts together.
pub record SummariesAddUp (run : Run) (journals : List Journal) (cut : List Part) : Type 0 where
  pub frames : frame_count run ≡ sum_by (λ (p : Part). frame_count p.run) cut
  pub sent : sent_count run journals ≡ sum_by (λ (p : Part). sent_count p.run p.journals) cut
  pub dropped : dropped_count run journals ≡ sum_by (λ (p : Part). dropped_count p.run p.journals) cut

-- ---- flows

-- the packets and the octets of the flows of a class
abbrev pub class_packets : Run → List Journal → List ℕ → ℕ
class_packets run journals class = packet_sum (of_class class (flows_of (packets run (actions_for run journals))))

abbrev pub class_octets : Run → List Journal → List ℕ → ℕ
class_octets run journals class = octet_sum (of_class class (flows_of (packets run (actions_for run journals))))

-- The flows of a class have as many packets and octets as those of the parts together, and its packets came in at the
-- same times.
pub record FlowsAddUp (run : Run) (journals : List Journal) (cut : List Part) (class : List ℕ) : Type 0 where
  pub packet_sums : class_packets run journals class ≡ sum_by (λ (p : Part). class_packets p.run p.journals class) cut
  pub octet_sums : class_octets run journals class ≡ sum_by (λ (p : Part). class_octets p.run p.journals class) cut
  pub times : class_times run (actions_for run journals) class
      ≡ flat_map (λ (p : Part). class_times p.run (actions_for p.run p.journals) class) cut

-- It holds of any run that may be cut at times, of its journals, and of its parts.
abbrev pub OfParts : (Run → List Journal → List Part → Type 0) → Type 0
OfParts claim =
    (times : List ℕ) (run : Run) (journals : List Journal) (cut : List Part)
    → MayBeCutAt times run → AreParts times run journals cut → claim run journals cut
