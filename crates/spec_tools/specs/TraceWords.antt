-- The words of the command line: `EDITS FLOW PORTS`, with commas between the ports.
use Rattle.std.specs.Prelude.{ℕ, zero, suc, ◌==◌, ◌||◌, if◌then◌else◌, List, [], ◌∷◌, ◌++◌, length, Option, Some, None}
use Rattle.std.specs.List.{list_any}
use Rattle.std.specs.Option.{option_map}
use Rattle.spec_flow_text.specs.Characters.{comma, line_feed}
use Rattle.spec_flow_text.specs.Numbers.{◌>>=◌, where_found, split_once}
use Rattle.spec_input.specs.Words.{most_ports, name_in, port_number}

-- the name of the file of edits, the flow, and the ports of the switch in their order
pub record Command : Type 0 where
  pub edits : List ℕ
  pub flow : List ℕ
  pub ports : List ℕ

-- one line, which isn't empty
abbrev pub line_in : List ℕ → Option (List ℕ)
line_in text = if (length text == 0) || list_any (λ c. c == line_feed) text then None else Some text

-- the port of a word, where it is none of these
unfoldable pub new_port : List ℕ → List ℕ → Option ℕ
new_port before word = port_number word >>= (λ port. if list_any (λ p. p == port) before then None else Some port)

-- these ports and those of a text, where so many may follow: one and more, all different
unfoldable pub ports_within : ℕ → List ℕ → List ℕ → Option (List ℕ)
ports_within zero before text = None
ports_within (suc room) before text =
    where_found (split_once comma text)
    (λ parts. new_port before parts.0 >>= (λ port. ports_within room (before ++ port ∷ []) parts.1))
    (option_map (λ port. before ++ port ∷ []) (new_port before text))

abbrev pub ports_in : List ℕ → Option (List ℕ)
ports_in text = ports_within most_ports [] text

unfoldable pub command_from : List ℕ → List ℕ → List ℕ → Option Command
command_from edits flow ports = do
  name ← name_in edits
  line ← line_in flow
  list ← ports_in ports
  Some (record { edits = name; flow = line; ports = list })

-- what the words say
unfoldable pub command_of : List (List ℕ) → Option Command
command_of (edits ∷ flow ∷ ports ∷ []) = command_from edits flow ports
command_of words = None
