-- The words of the command line:
--
--     [--workers N] [--steps FILE] [--flow-limit N] [--netflow] [--mirrors FILE] EDITS OUT PORT=FILE PORT=..
--     --generate N [--workers N] [--flow-limit N]
--
-- Which word is an option, which its value and which a positional is what `clap` has of this command, in which each
-- argument may be left out and no one has to do with another. What may stand together, and numbers, are tested after it.
use Rattle.std.specs.Prelude.{ℕ, ◌==◌, nat_le, Bool, true, false, not, ◌&&◌, ◌||◌, if◌then◌else◌, List, [], ◌∷◌, ◌++◌, length, Option, Some, None, unwrap_or, codes}
use Rattle.std.specs.List.{list_any}
use Rattle.std.specs.Option.{option_map, option_map_or, is_none}
use Rattle.std.specs.Str.{bytes_eq}
use Rattle.clap.specs.Words.{App, Row, Rule, new_app, new_rule, with_rule, matches_of, first_of, all_of, fault_of, Kinds}
use Rattle.clap.specs.Simple.{on_top}
use Rattle.clap.specs.declared.builder.action.ArgAction.TheVariants.{SetTrue, Append}
use Rattle.spec_flow_text.specs.Characters.{equals_sign}
use Rattle.spec_flow_text.specs.Numbers.{◌>>=◌, split_once, decimal_upto, last_port, nonzero}

-- ---- the command

-- an option `--NAME VALUE` or `--NAME=VALUE`
abbrev pub option : List ℕ → Rule
option name = record (new_rule name) { long = Some name }

-- an option `--NAME` that takes no value
abbrev pub flag : List ℕ → Rule
flag name = record (new_rule name) { long = Some name; action = Some SetTrue }

abbrev pub positional : List ℕ → Rule
positional name = new_rule name

-- the last positional, which may stand several times
abbrev pub several : List ℕ → Rule
several name = record (new_rule name) { action = Some Append }

-- the words are those after the program's name, and none asks for help
abbrev pub plain_app : App
plain_app = on_top (λ s. record s { no_binary_name = true; disable_help_flag = true }) (new_app (codes "megaswitch"))

abbrev pub app : App
app =
    with_rule (with_rule (with_rule (with_rule (with_rule (with_rule (with_rule (with_rule (with_rule plain_app
    (option (codes "workers"))) (option (codes "steps"))) (option (codes "flow-limit"))) (flag (codes "netflow")))
    (option (codes "mirrors"))) (option (codes "generate")))
    (positional (codes "EDITS"))) (positional (codes "OUT"))) (several (codes "TRACE"))

-- ---- what is said

-- `PORT=FILE`: a port, and the name of its trace, which is empty where it has none
pub record PortWord : Type 0 where
  pub port : ℕ
  pub file : List ℕ

abbrev pub has_trace : PortWord → Bool
has_trace w = not (length w.file == 0)

-- The files of a run: the edits, the given steps and the mirrors where there are such files, the ports with their traces, the
-- begin of the names of what is written, and whether the flows are written too.
pub record FilesNamed : Type 0 where
  pub edits : List ℕ
  pub steps : Option (List ℕ)
  pub mirrors : Option (List ℕ)
  pub out : List ℕ
  pub netflow : Bool
  pub ports : List PortWord

-- what is run: files, or what a number makes
pub data Input : Type 0 where
  Files : FilesNamed → Input
  Made : ℕ → Input

-- how many workers there are, the most megaflows of a port, and what is run
pub record Command : Type 0 where
  pub workers : ℕ
  pub flow_limit : ℕ
  pub input : Input

-- ---- limits

abbrev pub most_workers : ℕ
most_workers = 16

abbrev pub most_flows : ℕ
most_flows = 65536

abbrev pub default_flow_limit : ℕ
default_flow_limit = 8192

-- the greatest number that makes an input
abbrev pub most_made : ℕ
most_made = 4294967295

abbrev pub most_ports : ℕ
most_ports = 32

-- ---- numbers and names

-- the number of an option, where it stands and is one up to the most: decimal digits without leading zeros
abbrev pub number_of : ℕ → List ℕ → List Row → Option (Option ℕ)
number_of most name rows =
    option_map_or (λ text. option_map (λ n. Some n) (decimal_upto most text)) (first_of name rows) (Some None)

abbrev pub workers_of : List Row → Option ℕ
workers_of rows = option_map (λ n. unwrap_or n 0) (number_of most_workers (codes "workers") rows)

-- the flow limit is at least 1
abbrev pub flow_limit_of : List Row → Option ℕ
flow_limit_of rows = number_of most_flows (codes "flow-limit") rows >>= (λ n. nonzero (unwrap_or n default_flow_limit))

-- a name that isn't empty
abbrev pub name_in : List ℕ → Option (List ℕ)
name_in text = if length text == 0 then None else Some text

abbrev pub name_of : List ℕ → List Row → Option (List ℕ)
name_of id rows = first_of id rows >>= name_in

-- the name of a file that may be left out
abbrev pub given_name : List ℕ → List Row → Option (Option (List ℕ))
given_name id rows = option_map_or (λ text. option_map (λ name. Some name) (name_in text)) (first_of id rows) (Some None)

-- whether a flag stands: `clap` has the value `true` or `false` of it
abbrev pub has_flag : List ℕ → List Row → Bool
has_flag id rows = option_map_or (λ text. bytes_eq text (codes "true")) (first_of id rows) false

-- ---- ports

-- the number of a port in the words: decimal digits, from 1 to the last port
unfoldable pub port_number : List ℕ → Option ℕ
port_number text = decimal_upto last_port text >>= nonzero

-- the port of a word, round its first `=`
unfoldable pub port_word : List ℕ → Option PortWord
port_word word = do
  parts ← split_once equals_sign word
  port ← port_number parts.0
  Some (record { port = port; file = parts.1 })

-- whether a port stands among words
abbrev pub is_named : ℕ → List PortWord → Bool
is_named port words = list_any (λ (w : PortWord). w.port == port) words

-- the port of a word, where none of the words before it has it
unfoldable pub new_port : List PortWord → List ℕ → Option PortWord
new_port before word = port_word word >>= (λ w. if is_named w.port before then None else Some w)

-- the ports of words, all different, after those of the words before them
unfoldable pub port_words : List PortWord → List (List ℕ) → Option (List PortWord)
port_words before [] = Some before
port_words before (word ∷ words) = new_port before word >>= (λ w. port_words (before ++ w ∷ []) words)

-- one port and more, and not too many
abbrev pub ports_of : List Row → Option (List PortWord)
ports_of rows =
    all_of (codes "TRACE") rows
    >>= (λ words. if nat_le 1 (length words) && nat_le (length words) most_ports then port_words [] words else None)

-- ---- commands

-- the name of the steps file, where there is one; there is none where there are workers
abbrev pub may_have_steps : ℕ → Option (List ℕ) → Bool
may_have_steps workers steps = is_none steps || (workers == 0)

abbrev pub given_steps : ℕ → List Row → Option (Option (List ℕ))
given_steps workers rows = given_name (codes "steps") rows >>= (λ steps. if may_have_steps workers steps then Some steps else None)

unfoldable pub files_in : ℕ → List Row → Option Input
files_in workers rows = do
  edits ← name_of (codes "EDITS") rows
  out ← name_of (codes "OUT") rows
  steps ← given_steps workers rows
  mirrors ← given_name (codes "mirrors") rows
  ports ← ports_of rows
  Some (Files (record { edits = edits; steps = steps; mirrors = mirrors; out = out; netflow = has_flag (codes "netflow") rows; ports = ports }))

-- nothing else says what is run or written
abbrev pub is_alone : List Row → Bool
is_alone rows =
    is_none (first_of (codes "EDITS") rows) && is_none (first_of (codes "OUT") rows) && is_none (all_of (codes "TRACE") rows)
    && is_none (first_of (codes "steps") rows) && is_none (first_of (codes "mirrors") rows)
    && not (has_flag (codes "netflow") rows)

abbrev pub made_in : List Row → ℕ → Option Input
made_in rows number = if is_alone rows then Some (Made number) else None

abbrev pub input_by : ℕ → List Row → Option ℕ → Option Input
input_by workers rows None = files_in workers rows
input_by workers rows (Some number) = made_in rows number

-- what the matches of the command say
unfoldable pub command_in : List Row → Option Command
command_in rows = do
  workers ← workers_of rows
  limit ← flow_limit_of rows
  number ← number_of most_made (codes "generate") rows
  input ← input_by workers rows number
  Some (record { workers = workers; flow_limit = limit; input = input })

-- where `clap` finds no fault
abbrev pub where_whole : Kinds → Option Command → Option Command
where_whole [] said = said
where_whole (k ∷ ks) said = None

-- what the words of the command line say
unfoldable pub command_of : List (List ℕ) → Option Command
command_of words = where_whole (fault_of app words) (command_in (matches_of app words))
