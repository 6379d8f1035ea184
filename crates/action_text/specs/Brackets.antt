-- Open brackets as a stack: those that close them, the innermost last.
use Rattle.std.specs.Prelude.{ℕ, ◌==◌, Bool, false, List, [], ◌∷◌, reverse}

-- as the definitions see them, the innermost first
abbrev pub innermost_first : List ℕ → List ℕ
innermost_first stack = reverse stack

-- whether a byte closes the innermost
abbrev pub closes : List ℕ → ℕ → Bool
closes [] c = false
closes (close ∷ outer) c = c == close
