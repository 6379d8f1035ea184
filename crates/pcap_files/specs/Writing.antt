-- What a refused call of a writer leaves.
use Rattle.std.specs.Prelude.{◌≡◌, ℕ, List, ◌⊎◌, take, Result}
use Rattle.edge_io.specs.declared.outside.Failed.{Failed}
use Rattle.edge_io.specs.declared.outside.InUse.{InUse}
use Rattle.edge_io.specs.declared.outside.InUse.TheVariants.{Nothing, Created}
use Rattle.edge_io.specs.Shelf.{Told, Creates}

-- A prefix of these bytes was written to the file that was created under the name.
abbrev pub IsBegun : Told → Told → List ℕ → List ℕ → Type 0
IsBegun before after name bytes = (n : ℕ) × (after ≡ record before { current = take n bytes; last = name })

-- The file was not created, or is in use with a prefix of these bytes.
abbrev pub IsNotStarted : {T : Type 0} → InUse → Told → Told → List ℕ → List ℕ → Result T Failed → Type 0
IsNotStarted in_use before after name bytes result =
    ((in_use ≡ Nothing) × Creates before after name result) ⊎ ((in_use ≡ Created) × IsBegun before after name bytes)
