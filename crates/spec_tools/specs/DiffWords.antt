-- The words of the command line: `[--brief] OLD NEW PORT..`.
use Rattle.std.specs.Prelude.{ℕ, nat_lt, Bool, true, false, if◌then◌else◌, List, [], ◌∷◌, ◌++◌, length, Option, Some, None, codes}
use Rattle.std.specs.Str.{bytes_eq}
use Rattle.spec_flow_text.specs.Numbers.{◌>>=◌}
use Rattle.spec_input.specs.Words.{most_ports, name_in}
use Rattle.spec_tools.specs.TraceWords.{new_port}

-- the names of both files of edits, the ports of the switch in their order, and whether kinds alone are told
pub record Command : Type 0 where
  pub old : List ℕ
  pub new : List ℕ
  pub ports : List ℕ
  pub brief : Bool

-- these ports and those of more words, all different
unfoldable pub ports_with : List ℕ → List (List ℕ) → Option (List ℕ)
ports_with before [] = Some before
ports_with before (word ∷ words) = new_port before word >>= (λ port. ports_with (before ++ port ∷ []) words)

-- the ports of words, of which there aren't too many
unfoldable pub ports_of : List (List ℕ) → Option (List ℕ)
ports_of words = if nat_lt most_ports (length words) then None else ports_with [] words

unfoldable pub command_from : Bool → List ℕ → List ℕ → List (List ℕ) → Option Command
command_from brief old new words = do
  first ← name_in old
  second ← name_in new
  list ← ports_of words
  Some (record { old = first; new = second; ports = list; brief = brief })

-- both names and one port or more
unfoldable pub command_in : Bool → List (List ℕ) → Option Command
command_in brief (old ∷ new ∷ port ∷ ports) = command_from brief old new (port ∷ ports)
command_in brief words = None

abbrev pub brief_word : List ℕ
brief_word = codes "--brief"

-- what the words say
unfoldable pub command_of : List (List ℕ) → Option Command
command_of [] = None
command_of (word ∷ words) = if bytes_eq word brief_word then command_in true words else command_in false (word ∷ words)
