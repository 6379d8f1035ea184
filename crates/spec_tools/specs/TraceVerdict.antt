-- What becomes of a trace before anything is printed. The words come first, then the file of edits, then the flow, and
-- then whether its port is one of the switch; the first that is refused decides.
use Rattle.std.specs.Prelude.{ℕ, ◌==◌, nat_lt, if◌then◌else◌, List, [], ◌∷◌, length, Result, Ok, Err, codes}
use Rattle.std.specs.List.{list_any}
use Rattle.std.specs.Option.{ok_or}
use Rattle.spec_keys.specs.Fields.{register_fields}
use Rattle.spec_tables.specs.declared.edit_word.EditWord.TheVariants.{Delete}
use Rattle.spec_tables.specs.Rules.{Rule, Match}
use Rattle.spec_tables.specs.Bundles.{version}
use Rattle.spec_xlate.specs.Translation.{in_port_of}
use Rattle.spec_xlate.specs.Consulted.{without}
use Rattle.spec_flow_text.specs.declared.fault.TextFault.{TextFault}
use Rattle.spec_flow_text.specs.Matches.{MatchText, read_match}
use Rattle.spec_input.specs.declared.fault.FileFault.TheVariants.{Line}
use Rattle.spec_input.specs.Lines.{most_line_bytes}
use Rattle.spec_input.specs.Script.{Script}
use Rattle.spec_run.specs.declared.quantity.Quantity.TheVariants as quantity
use Rattle.spec_run.specs.Verdict as run
use Rattle.spec_run.specs.Verdict.{Files, refused_text, script_in}
use Rattle.spec_tools.specs.TraceWords.{Command, command_of}

-- Why there is no trace: words that the program doesn't take; the file of edits or the flow, as the switch refuses such a
-- text; or a flow whose port, which is this one, is none of the switch.
pub data Refusal : Type 0 where
  Usage : Refusal
  Input : run.Refusal → Refusal
  NoPort : ℕ → Refusal

-- what is traced: the rules, the ports of the switch, and the key of a packet
pub record Accepted : Type 0 where
  pub rules : List Rule
  pub ports : List ℕ
  pub key : List ℕ

infixl 10 ◌>>=◌
abbrev pub ◌>>=◌ : {A B : Type 0} → Result A Refusal → (A → Result B Refusal) → Result B Refusal
Ok a >>= f = f a
Err e >>= f = Err e

unfoldable pub command_in : List (List ℕ) → Result Command Refusal
command_in words = ok_or (command_of words) Usage

abbrev pub as_input : {A : Type 0} → Result A run.Refusal → Result A Refusal
as_input (Ok a) = Ok a
as_input (Err r) = Err (Input r)

-- ---- the flow

-- the name under which it is told, whose only line is line 1
abbrev pub flow_name : List ℕ
flow_name = codes "flow"

abbrev pub match_or_refusal : Result MatchText TextFault → Result Match run.Refusal
match_or_refusal (Ok m) = Ok m.matching
match_or_refusal (Err why) = Err (refused_text flow_name (Line 1 why))

-- The match of a flow, which is read as what follows the word `delete` is. Its table and its priority are ignored.
unfoldable pub match_in : List ℕ → Result Match run.Refusal
match_in flow =
    if nat_lt most_line_bytes (length flow) then Err (run.Limit quantity.Line) else match_or_refusal (read_match Delete 0 flow)

-- the key of the packet: what the match states, and 0 elsewhere, and in metadata and the registers
unfoldable pub key_of : Match → List ℕ
key_of m = without register_fields m.key

-- it comes in at a port of the switch
abbrev pub at_port : List ℕ → List ℕ → Result (List ℕ) Refusal
at_port ports key = if list_any (λ p. p == in_port_of key) ports then Ok key else Err (NoPort (in_port_of key))

-- ---- the whole

-- the rules that all bundles of a file make; its sync lines say nothing here
abbrev pub rules_of : Script → List Rule
rules_of s = version s.edits s.bundles (length s.bundles)

abbrev pub accepted : List ℕ → Script → List ℕ → Accepted
accepted ports s key = record { rules = rules_of s; ports = ports; key = key }

-- what becomes of a flow and of ports, after edits that were accepted
unfoldable pub case_of : List ℕ → List ℕ → Script → Result Accepted Refusal
case_of flow ports s =
    as_input (match_in flow)
    >>= (λ m. at_port ports (key_of m)
    >>= (λ key. Ok (accepted ports s key)))

-- what becomes of all that the words name
unfoldable pub verdict_of : Files → Command → Result Accepted Refusal
verdict_of files c = as_input (script_in files c.edits) >>= case_of c.flow c.ports

unfoldable pub verdict : List (List ℕ) → Files → Result Accepted Refusal
verdict words files = command_in words >>= verdict_of files

-- the files that are opened: that of the edits, where the words are taken
abbrev pub opened_for : Command → List (List ℕ)
opened_for c = c.edits ∷ []

abbrev pub opened_where : Result Command Refusal → List (List ℕ)
opened_where (Ok c) = opened_for c
opened_where (Err r) = []

abbrev pub files_opened : List (List ℕ) → List (List ℕ)
files_opened words = opened_where (command_in words)
