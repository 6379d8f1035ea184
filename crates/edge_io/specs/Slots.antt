-- The file of a folder in memory that is in use.
use Rattle.std.specs.Prelude.{◌≡◌, ℕ, ◌<◌, ◌≤◌, List, [], drop, length, String, Vec, string_bytes, vec_len, vec_capacity}
use Rattle.std.specs.declared.alloc.Global.{Global}
use Rattle.spec_base.specs.Files.{File}
use Rattle.edge_io.specs.declared.outside.InUse.{InUse}
use Rattle.edge_io.specs.declared.outside.InUse.TheVariants as in_use
use Rattle.edge_io.specs.declared.memory.folder.Slot.{Slot}
use Rattle.edge_io.specs.declared.memory.folder.Slot.TheVariants.{Empty, Opened, Created}
use Rattle.edge_io.specs.Stored.{contents_of}

abbrev pub use_of : Slot → InUse
use_of Empty = in_use.Nothing
use_of (Opened file at) = in_use.Opened
use_of (Created name bytes) = in_use.Created

-- what is left of the opened file
abbrev pub left_of : List File → Slot → List ℕ
left_of held Empty = []
left_of held (Opened file at) = drop at (contents_of held file)
left_of held (Created name bytes) = []

-- what was written to the created file
abbrev pub current_of : Slot → List ℕ
current_of Empty = []
current_of (Opened file at) = []
current_of (Created name bytes) = bytes.items

-- No more was read than there is. A created file has the last name, and a place is kept for it when it is closed.
abbrev pub IsSound : List File → Vec (String Global × Vec ℕ Global) Global → List ℕ → Slot → Type 0
IsSound held made last Empty = Unit {0}
IsSound held made last (Opened file at) = at ≤ length (contents_of held file)
IsSound held made last (Created name bytes) = (string_bytes name ≡ last) × (vec_len made < vec_capacity made)
