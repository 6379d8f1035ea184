-- Files that are written.
use Rattle.std.specs.Prelude.{◌≡◌, ℕ, nat_eq, ◌⊎◌, List, [], ◌∷◌, ◌++◌, take, Option, Some, None, unwrap_or, if◌then◌else◌}
use Rattle.std.specs.Cmp.Lexicographic.{pointwise}

-- a name, and bytes
abbrev pub File : Type 0
File = List ℕ × List ℕ

-- After the files before, a prefix of this file was written, or nothing of it.
abbrev pub IsPrefixOf : List File → File → List File → Type 0
IsPrefixOf before file now = (now ≡ before) ⊎ ((n : ℕ) × (now ≡ before ++ (file.0, take n file.1) ∷ []))

-- the contents of the first file of a name
abbrev pub lookup : List File → List ℕ → Option (List ℕ)
lookup [] name = None
lookup (file ∷ files) name = if pointwise nat_eq file.0 name then Some file.1 else lookup files name

-- the same, where every other name is that of an empty file
abbrev pub lookup_or_empty : List File → List ℕ → Option (List ℕ)
lookup_or_empty files name = Some (unwrap_or (lookup files name) [])
