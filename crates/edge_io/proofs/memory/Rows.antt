-- Worked rows of the definitions.
use Rattle.std.proofs.Common.{◌≡◌, List, [], ◌∷◌, Some, None, refl}
use Rattle.std.specs.Prelude.{codes}
use Rattle.spec_base.specs.Files.{File}
use Rattle.spec_base.specs.Files.{lookup, lookup_or_empty}
use Rattle.edge_io.specs.Stored.{contents_of}

abbrev files : List File
files = (codes "a", codes "first") ∷ (codes "b", codes "other") ∷ (codes "a", codes "second") ∷ []

-- of a name the first file counts
first_of_a_name : lookup files (codes "a") ≡ Some (codes "first")
first_of_a_name = refl

missing_name : lookup files (codes "c") ≡ None
missing_name = refl

-- a steady shelf holds a missing name as an empty file, and an empty name is no exception
missing_name_is_empty : lookup_or_empty files (codes "c") ≡ Some []
missing_name_is_empty = refl

given_name_is_kept : lookup_or_empty files (codes "b") ≡ Some (codes "other")
given_name_is_kept = refl

file_at_a_place : contents_of files (Some 2) ≡ codes "second"
file_at_a_place = refl
