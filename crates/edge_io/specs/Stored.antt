-- Files in memory, by name.
use Rattle.std.specs.Prelude.{ℕ, List, [], map, slice_get, Option, Some, None, String, Vec, string_bytes}
use Rattle.std.specs.Option.{option_map_or}
use Rattle.std.specs.declared.alloc.Global.{Global}
use Rattle.spec_base.specs.Files.{File}
use Rattle.edge_io.specs.declared.outside.InUse.{InUse}
use Rattle.edge_io.specs.Shelf.{Told}

-- the names of files, with their bytes
abbrev pub pairs : List (String Global × Vec ℕ Global) → List File
pairs files = map (λ file. (string_bytes file.0, file.1.items)) files

-- the names of texts
abbrev pub names : List (String Global) → List (List ℕ)
names texts = map string_bytes texts

-- the contents of the file at a place; without a place it is an empty file
abbrev pub contents_of : List File → Option ℕ → List ℕ
contents_of files None = []
contents_of files (Some place) = option_map_or (λ file. file.1) (slice_get files place) []

-- A folder in memory: the files that it holds, and what was done with it.
pub record Stored : Type 0 where
  pub held : List File
  pub in_use : InUse
  pub left : List ℕ
  pub done : List File
  pub current : List ℕ
  pub last : List ℕ
  pub opened : List (List ℕ)

-- what it tells, where it is seen to hold these contents
abbrev pub told_of : (List ℕ → Option (List ℕ)) → Stored → Told
told_of holds s = record { holds = holds; left = s.left; done = s.done; current = s.current; last = s.last; opened = s.opened }
