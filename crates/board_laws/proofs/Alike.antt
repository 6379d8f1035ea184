-- What whole journals give where each frame was decided under the last version of its block.
use Rattle.std.proofs.Common.{◌≡◌, ℕ, suc, ◌+◌, ◌==◌, Bool, true, false, if◌then◌else◌, List, [], ◌∷◌, ◌++◌, map, All, Option, Some, refl, sym, ap, ◌∙◌, subst, arith}
use Rattle.std.specs.Prelude.{codes}
use Rattle.std.specs.List.{find, flat_map}
use Rattle.std.proofs.Math.Path.{fun_ext}
use Rattle.std.proofs.lemmas.Bool.{eqb-true}
use Rattle.std.proofs.lemmas.List.Sums.{sum_by-cons}
use Rattle.spec_pcap.specs.Pcap.{Frame, file_of}
use Rattle.spec_actions.specs.declared.action.DpAction.{DpAction}
use Rattle.spec_case.specs.declared.arrival.Arrival.{Arrival}
use Rattle.spec_case.specs.Run.{Run, is_nanos}
use Rattle.spec_case.specs.Arrivals as arrived
use Rattle.spec_tables.specs.Rules.{Rule}
use Rattle.spec_board.specs.Steps.{Step}
use Rattle.spec_board.specs.Counts.{owed_packets, owed_bytes}
use Rattle.spec_board.specs.Decisions.{decision_of, due_packets, due_bytes}
use Rattle.spec_board.specs.Texts.{Journal}
use Rattle.spec_run.specs.declared.rule_counts.RuleCounts.{RuleCounts}
use Rattle.spec_run.specs.Rules.{end_of, packets_of, bytes_of, counts_of, in_order, live_rules, rule_line_with, gone_line_with, gone_rules, rules_text}
use Rattle.spec_run.specs.Journals.{HasEditsApart, IsWhole, AreWhole, IsByLastVersion, steps_in, actions_in, actions_for}
use Rattle.spec_run.specs.Outputs.{frames_by, frames_out, port_file_name, port_file, rules_file}
use Rattle.board_laws.proofs.ByLastVersions.{AreByLast, of_journal, by_last_version, same_actions, same_packets, same_bytes}

all_head : {X : Type 0} (P : X → Type 0) (x : X) (xs : List X) → All P (x ∷ xs) → P x
all_head P x xs all = all 0 x (omega arith)

all_tail : {X : Type 0} (P : X → Type 0) (x : X) (xs : List X) → All P (x ∷ xs) → All P xs
all_tail P x xs all k d within = all (suc k) d (omega (arith, within))

pub all_by_last : (run : Run) (journals : List Journal) → HasEditsApart run → AreWhole run journals → All (IsByLastVersion run) journals
all_by_last run journals apart whole k d within = by_last_version run _ apart (whole.each k d within)

abbrev port_in : Journal → ℕ
port_in j = j.port

abbrev packets_in : Run → ℕ → Journal → ℕ
packets_in run rule j = ((end_of run j).totals rule).packets + owed_packets rule (end_of run j).entries

abbrev bytes_in : Run → ℕ → Journal → ℕ
bytes_in run rule j = ((end_of run j).totals rule).bytes + owed_bytes rule (end_of run j).entries

-- ---- journals of the same port

module _ (run : Run) (j k : Journal) (port : j.port ≡ k.port) (whole_j : IsWhole run j) (whole_k : IsWhole run k)
    (last_j : IsByLastVersion run j) (last_k : IsByLastVersion run k) where
  of_j : AreByLast run j.port j.steps
  of_j = of_journal run j whole_j last_j

  of_k : AreByLast run j.port k.steps
  of_k = subst (λ p. AreByLast run p k.steps) (sym port) (of_journal run k whole_k last_k)

  packets_alike : (rule : ℕ) → packets_in run rule j ≡ packets_in run rule k
  packets_alike rule =
      (whole_j.accounted rule).packets ∙ same_packets run j.port j.steps k.steps of_j of_k rule
      ∙ ap (λ p. due_packets run p k.steps rule) port ∙ sym (whole_k.accounted rule).packets

  bytes_alike : (rule : ℕ) → bytes_in run rule j ≡ bytes_in run rule k
  bytes_alike rule =
      (whole_j.accounted rule).bytes ∙ same_bytes run j.port j.steps k.steps of_j of_k rule
      ∙ ap (λ p. due_bytes run p k.steps rule) port ∙ sym (whole_k.accounted rule).bytes

  actions_alike : (place : ℕ) → actions_in (decision_of run j.port j.steps place) ≡ actions_in (decision_of run j.port k.steps place)
  actions_alike place = same_actions run j.port j.steps k.steps of_j of_k place

-- ---- lists of journals

-- Both are whole journals of the same ports, and decided each frame under the last version of its block.
record Both (run : Run) (a b : List Journal) : Type 0 where
  ports : map port_in a ≡ map port_in b
  whole_a : All (IsWhole run) a
  whole_b : All (IsWhole run) b
  last_a : All (IsByLastVersion run) a
  last_b : All (IsByLastVersion run) b

module _ (run : Run) (j k : Journal) (a b : List Journal) (both : Both run (j ∷ a) (k ∷ b)) where
  first_port : j.port ≡ k.port
  first_port = let ports = both.ports in cc ports

  rest : Both run a b
  rest = record {
    ports = (let ports = both.ports in cc ports);
    whole_a = all_tail (IsWhole run) j a both.whole_a;
    whole_b = all_tail (IsWhole run) k b both.whole_b;
    last_a = all_tail (IsByLastVersion run) j a both.last_a;
    last_b = all_tail (IsByLastVersion run) k b both.last_b;
  }

  first_whole : IsWhole run j × IsWhole run k
  first_whole = (all_head (IsWhole run) j a both.whole_a, all_head (IsWhole run) k b both.whole_b)

  first_last : IsByLastVersion run j × IsByLastVersion run k
  first_last = (all_head (IsByLastVersion run) j a both.last_a, all_head (IsByLastVersion run) k b both.last_b)

same_packets_of : (run : Run) (a b : List Journal) → Both run a b → (rule : ℕ) → packets_of run a rule ≡ packets_of run b rule
same_packets_of run [] [] both rule = refl
same_packets_of run [] (k ∷ b) both rule = absurd (let ports = both.ports in cc ports)
same_packets_of run (j ∷ a) [] both rule = absurd (let ports = both.ports in cc ports)
same_packets_of run (j ∷ a) (k ∷ b) both rule =
    let w = first_whole run j k a b both in
    let l = first_last run j k a b both in
    sum_by-cons (packets_in run rule) j a
    ∙ ap (λ n. n + packets_of run a rule) (packets_alike run j k (first_port run j k a b both) w.0 w.1 l.0 l.1 rule)
    ∙ ap (λ n. packets_in run rule k + n) (same_packets_of run a b (rest run j k a b both) rule)
    ∙ sym (sum_by-cons (packets_in run rule) k b)

same_bytes_of : (run : Run) (a b : List Journal) → Both run a b → (rule : ℕ) → bytes_of run a rule ≡ bytes_of run b rule
same_bytes_of run [] [] both rule = refl
same_bytes_of run [] (k ∷ b) both rule = absurd (let ports = both.ports in cc ports)
same_bytes_of run (j ∷ a) [] both rule = absurd (let ports = both.ports in cc ports)
same_bytes_of run (j ∷ a) (k ∷ b) both rule =
    let w = first_whole run j k a b both in
    let l = first_last run j k a b both in
    sum_by-cons (bytes_in run rule) j a
    ∙ ap (λ n. n + bytes_of run a rule) (bytes_alike run j k (first_port run j k a b both) w.0 w.1 l.0 l.1 rule)
    ∙ ap (λ n. bytes_in run rule k + n) (same_bytes_of run a b (rest run j k a b both) rule)
    ∙ sym (sum_by-cons (bytes_in run rule) k b)

abbrev found_in : ℕ → List Journal → List Step
found_in port journals = steps_in (find (λ (j : Journal). j.port == port) journals)

same_actions_for : (run : Run) (a b : List Journal) → Both run a b → (port place : ℕ) → actions_for run a port place ≡ actions_for run b port place
same_actions_for run [] [] both port place = refl
same_actions_for run [] (k ∷ b) both port place = absurd (let ports = both.ports in cc ports)
same_actions_for run (j ∷ a) [] both port place = absurd (let ports = both.ports in cc ports)
same_actions_for run (j ∷ a) (k ∷ b) both port place =
    at (j.port == port) refl (same_actions_for run a b (rest run j k a b both) port place)
    ∙ ap (λ p. actions_by (if p == port then Some k else find (λ (x : Journal). x.port == port) b)) (first_port run j k a b both)
  where
    actions_by : Option Journal → List DpAction
    actions_by o = actions_in (decision_of run port (steps_in o) place)

    at : (t : Bool) → (j.port == port) ≡ t → actions_for run a port place ≡ actions_for run b port place → actions_by (if t then Some j else find (λ (x : Journal). x.port == port) a)
        ≡ actions_by (if t then Some k else find (λ (x : Journal). x.port == port) b)
    at true is others =
        let w = first_whole run j k a b both in
        let l = first_last run j k a b both in
        let same = actions_alike run j k (first_port run j k a b both) w.0 w.1 l.0 l.1 place in
        subst (λ p. actions_in (decision_of run p j.steps place) ≡ actions_in (decision_of run p k.steps place)) (eqb-true j.port port is) same
    at false is others = others

-- ---- what is written

module _ (run : Run) (a b : List Journal) (whole_a : AreWhole run a) (whole_b : AreWhole run b)
    (last_a : All (IsByLastVersion run) a) (last_b : All (IsByLastVersion run) b) where
  both_are : Both run a b
  both_are = record {
    ports = whole_a.of_ports ∙ sym whole_b.of_ports;
    whole_a = whole_a.each;
    whole_b = whole_b.each;
    last_a = last_a;
    last_b = last_b;
  }

  pub actions_are : (port place : ℕ) → actions_for run a port place ≡ actions_for run b port place
  actions_are = same_actions_for run a b both_are

  pub frames_are : (port : ℕ) → frames_out run a port ≡ frames_out run b port
  frames_are port =
      ap (λ (f : Arrival → List Frame). flat_map f (arrived.in_order (arrived.arrivals run)))
      (fun_ext (λ x. ap (λ actions. frames_by run actions port x) (actions_are x.port x.place)))

  pub port_files_are : (out : List ℕ) (port : ℕ) → port_file out run a port ≡ port_file out run b port
  port_files_are out port = ap (λ (frames : List Frame). (port_file_name out port, file_of (is_nanos run) frames)) (frames_are port)

  pub counts_are : (rule : ℕ) → counts_of run a rule ≡ counts_of run b rule
  counts_are rule =
      let counts : ℕ → ℕ → RuleCounts = λ packets bytes. record { packets = packets; bytes = bytes } in
      ap (λ n. counts n (bytes_of run a rule)) (same_packets_of run a b both_are rule) ∙ ap (counts (packets_of run b rule)) (same_bytes_of run a b both_are rule)

  abbrev text_by : (ℕ → RuleCounts) → List ℕ
  text_by counts =
      flat_map (λ (r : Rule). rule_line_with (counts r.number) r) (in_order (live_rules run)) ++ flat_map (λ rule. gone_line_with (counts rule) rule) (gone_rules run)

  pub texts_are : rules_text run a ≡ rules_text run b
  texts_are = ap text_by (fun_ext counts_are)

  pub rules_files_are : (out : List ℕ) → rules_file out run a ≡ rules_file out run b
  rules_files_are out = ap (λ (text : List ℕ). (out ++ codes ".rules", text)) texts_are
