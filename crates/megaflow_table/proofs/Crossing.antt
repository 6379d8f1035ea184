-- That the megaflows of a port may go to another thread, part by part: one search through all of their fields would not come
-- to an end.
use denote.Param.Send.{IsSend, sendable}
use Rattle.std.proofs.Crossing.{crosses}
use Rattle.masked_map.proofs.Crossing.{compact_send, compact_mask_send, filter_send, key_send, mask_send}
use Rattle.megaflow_table.specs.contracts.entry.Entry as entry
use Rattle.megaflow_table.specs.contracts.megaflows.Megaflows as megaflows
use Rattle.megaflow_table.specs.contracts.placed.Placed as placed
use Rattle.megaflow_table.specs.contracts.subtables.Fresh as fresh
use Rattle.megaflow_table.specs.contracts.subtables.Subtable as subtable

entry_send : IsSend (entry.the_field).row
entry_send = search (sendable, crosses, key_send, mask_send) depth 100 fits 20000

placed_send : IsSend (placed.the_field).row
placed_send = search (sendable, crosses, entry_send) depth 100 fits 20000

subtable_send : IsSend (subtable.the_field).row
subtable_send = search (sendable, crosses, key_send, mask_send, compact_send, compact_mask_send, filter_send) depth 100 fits 20000

fresh_send : IsSend (fresh.the_field).row
fresh_send = search (sendable, crosses, subtable_send, mask_send) depth 100 fits 20000

pub megaflows_send : IsSend (megaflows.the_field).row
megaflows_send = search (sendable, crosses, placed_send, subtable_send, fresh_send, mask_send) depth 100 fits 20000
