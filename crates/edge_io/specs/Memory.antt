-- What is seen of files and text in memory.
use Rattle.std.specs.Prelude.{ℕ, List}
use Rattle.edge_io.specs.declared.outside.InUse.{InUse}
use Rattle.edge_io.specs.declared.memory.fixed_sink.FixedSink.{FixedSink}
use Rattle.edge_io.specs.declared.memory.memory.MemoryShelf.{MemoryShelf}
use Rattle.edge_io.specs.declared.memory.memory_sink.MemorySink.{MemorySink}
use Rattle.edge_io.specs.Calls.{Calls}
use Rattle.edge_io.specs.Counts.{Counts}
use Rattle.edge_io.specs.Shelf.{Told}
use Rattle.spec_base.specs.Files.{lookup}
use Rattle.edge_io.specs.Stored.{told_of}

abbrev pub shelf_told : MemoryShelf → Told
shelf_told s = told_of (lookup s.folder.held) s.folder

abbrev pub shelf_in_use : MemoryShelf → InUse
shelf_in_use s = s.folder.in_use

abbrev pub shelf_counts : MemoryShelf → Counts
shelf_counts s = s.counts

-- the counts as the last name was asked for
abbrev pub shelf_counts_at_last : MemoryShelf → Counts
shelf_counts_at_last s = s.counts_at_last

abbrev pub shelf_calls : MemoryShelf → Calls
shelf_calls s = s.calls

abbrev pub sink_written : MemorySink → List ℕ
sink_written s = s.text.items

abbrev pub sink_faults : MemorySink → ℕ
sink_faults s = s.faults

abbrev pub sink_calls : MemorySink → Calls
sink_calls s = s.calls

abbrev pub fixed_written : FixedSink → List ℕ
fixed_written s = s.text.items

abbrev pub fixed_faults : FixedSink → ℕ
fixed_faults s = s.faults

-- the most bytes that it has room for
abbrev pub fixed_room : FixedSink → ℕ
fixed_room s = s.room
