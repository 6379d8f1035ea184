-- The dump of megaflows: by port, in the order of the words, and then by number.
use Rattle.std.specs.Prelude.{ℕ, ◌+◌, ◌/◌, ◌%◌, ◌^◌, ◌==◌, if◌then◌else◌, List, [], ◌∷◌, ◌++◌, map, codes}
use Rattle.std.specs.List.{flat_map, join_with_byte}
use Rattle.std.specs.Char.{digit_char}
use Rattle.std.specs.Fmt.{decimal}
use Rattle.spec_keys.specs.declared.field_id.FieldId.{FieldId}
use Rattle.spec_keys.specs.Fields.{fields}
use Rattle.spec_pcap.specs.Pcap.{second}
use Rattle.spec_tables.specs.Rules.{Match}
use Rattle.spec_flow_text.specs.Characters.{comma, dot, equals_sign, hyphen}
use Rattle.spec_flow_text.specs.Printed.{Shown, shown_text, shown_bits, bits_of, own_name}
use Rattle.spec_flow_text.specs.DpTextPrinted.{dp_actions_printed}
use Rattle.spec_case.specs.Run.{Run}
use Rattle.spec_board.specs.State.{Entry}
use Rattle.spec_board.specs.Texts.{Journal, line_of}
use Rattle.spec_run.specs.Rules.{end_of}

-- ---- the time of use

-- the nine decimal digits of a part of a second in nanoseconds
abbrev pub nanoseconds_text : ℕ → List ℕ
nanoseconds_text n = map (λ place. digit_char (n / 10 ^ place % 10)) (8 ∷ 7 ∷ 6 ∷ 5 ∷ 4 ∷ 3 ∷ 2 ∷ 1 ∷ 0 ∷ [])

abbrev pub time_text : ℕ → List ℕ
time_text time = decimal (time / second) ++ (dot ∷ nanoseconds_text (time % second))

-- ---- visits

abbrev pub plus_sign : ℕ
plus_sign = 43

-- so many visits of one rule after each other
pub record Visited : Type 0 where
  pub rule : ℕ
  pub times : ℕ

abbrev pub once : ℕ → Visited
once rule = record { rule = rule; times = 1 }

-- one visit before others, as one more of the same rule where that comes next
abbrev pub visited_before : ℕ → List Visited → List Visited
visited_before rule [] = once rule ∷ []
visited_before rule (v ∷ vs) =
    if v.rule == rule then record v { times = v.times + 1 } ∷ vs else once rule ∷ v ∷ vs

-- the visits of each rule that are made after each other, together
unfoldable pub together : List ℕ → List Visited
together [] = []
together (rule ∷ visits) = visited_before rule (together visits)

abbrev pub visited_text : Visited → List ℕ
visited_text v = if v.times == 1 then decimal v.rule else decimal v.rule ++ (codes "x" ++ decimal v.times)

abbrev pub joined_visits : List Visited → List ℕ
joined_visits [] = hyphen ∷ []
joined_visits vs = join_with_byte plus_sign (map visited_text vs)

-- `R` for a visit of a rule and `RxN` for so many after each other, with `+` between them, and `-` where there is none
abbrev pub visits_text : List ℕ → List ℕ
visits_text visits = joined_visits (together visits)

-- ---- matches

-- Each field of which a megaflow states a bit, by its own name. No word stands for the Ethernet type or the protocol, so
-- that one sees each bit that a packet has to have.
abbrev pub stated : Match → FieldId → List Shown
stated m f = shown_bits (own_name f) (bits_of m f)

abbrev pub megaflow_match : Entry → Match
megaflow_match e = record { key = e.key; mask = e.mask }

unfoldable pub megaflow_match_text : Match → List ℕ
megaflow_match_text m = join_with_byte comma (map shown_text (flat_map (stated m) fields))

-- ---- lines

-- `NAME=TEXT`, and the same after a space
abbrev pub told : List ℕ → List ℕ → List ℕ
told name text = name ++ (equals_sign ∷ text)

abbrev pub and_told : List ℕ → List ℕ → List ℕ
and_told name text = codes " " ++ told name text

abbrev pub megaflow_line : ℕ → Entry → List ℕ
megaflow_line port e = line_of (
    told (codes "port") (decimal port) ++ (and_told (codes "entry") (decimal e.number) ++ (and_told (codes "version") (decimal e.version)
    ++ (and_told (codes "packets") (decimal e.packets) ++ (and_told (codes "bytes") (decimal e.bytes)
    ++ (and_told (codes "owed_packets") (decimal e.owed_packets) ++ (and_told (codes "owed_bytes") (decimal e.owed_bytes)
    ++ (and_told (codes "used") (time_text e.used) ++ (and_told (codes "visits") (visits_text e.visits)
    ++ (and_told (codes "match") (megaflow_match_text (megaflow_match e)) ++ and_told (codes "actions") (dp_actions_printed e.actions)))))))))))

abbrev pub port_megaflows_text : Run → Journal → List ℕ
port_megaflows_text run j = flat_map (megaflow_line j.port) (end_of run j).entries

-- the dump of the megaflows that stand at the end of a run, by its journals
abbrev pub megaflows_text : Run → List Journal → List ℕ
megaflows_text run journals = flat_map (port_megaflows_text run) journals
