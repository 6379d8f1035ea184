-- Which file of the real shelf is in use.
use Rattle.edge_io.specs.declared.outside.InUse.{InUse}
use Rattle.edge_io.specs.declared.outside.InUse.TheVariants as in_use
use Rattle.edge_io.specs.declared.real.real.Slot.{Slot}
use Rattle.edge_io.specs.declared.real.real.Slot.TheVariants.{Empty, Opened, Created}

abbrev pub use_of : {F : Type 0} → Slot F → InUse
use_of Empty = in_use.Nothing
use_of (Opened file) = in_use.Opened
use_of (Created writer) = in_use.Created
