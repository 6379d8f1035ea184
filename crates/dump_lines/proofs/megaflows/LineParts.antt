-- The parts of a line, joined.
use Rattle.std.proofs.Common.{◌≡◌, ℕ, List, ◌++◌, append_assoc}
use Rattle.std.specs.Prelude.{codes}
use Rattle.std.specs.Fmt.{decimal}
use Rattle.spec_board.specs.State.{Entry}
use Rattle.spec_flow_text.specs.DpTextPrinted.{dp_actions_printed}
use Rattle.spec_run.specs.Megaflows.{told, and_told, time_text, visits_text, megaflow_match, megaflow_match_text, megaflow_line}
use Rattle.dump_lines.specs.Parts.{entry_text, actions_text}

regrouped : (a b c d e f g h i j k n : List ℕ)
    → ((a ++ (b ++ c)) ++ ((d ++ (e ++ (f ++ g))) ++ (h ++ (i ++ j)))) ++ (k ++ n)
    ≡ (a ++ (b ++ (c ++ (d ++ (e ++ (f ++ (g ++ (h ++ (i ++ (j ++ k)))))))))) ++ n
regrouped a b c d e f g h i j k n = simp append_assoc

pub line_of_parts : (port : ℕ) (e : Entry)
    → entry_text port e ++ actions_text e.actions ≡ megaflow_line port e
line_of_parts port e =
    regrouped (told (codes "port") (decimal port)) (and_told (codes "entry") (decimal e.number)) (and_told (codes "version") (decimal e.version))
    (and_told (codes "packets") (decimal e.packets)) (and_told (codes "bytes") (decimal e.bytes))
    (and_told (codes "owed_packets") (decimal e.owed_packets)) (and_told (codes "owed_bytes") (decimal e.owed_bytes))
    (and_told (codes "used") (time_text e.used)) (and_told (codes "visits") (visits_text e.visits))
    (and_told (codes "match") (megaflow_match_text (megaflow_match e))) (and_told (codes "actions") (dp_actions_printed e.actions)) (codes "\n")
