-- That compact keys and masks, and filters, may go to another thread and be shared. A search through the fields of what holds a
-- map needs these, or it would not come to an end.
use denote.Param.Send.{IsSend, IsSync, sendable}
use Rattle.std.proofs.Crossing.{crosses}
pub use Rattle.ovs_fields.proofs.Crossing.{key_send, key_sync, mask_send, mask_sync}
use Rattle.masked_map.specs.contracts.fields.CompactFields as compact
use Rattle.masked_map.specs.contracts.compact_mask.CompactMask as compact_mask
use Rattle.masked_map.specs.contracts.key_filter.KeyFilter as filter

pub compact_send : IsSend (compact.the_field).row
compact_send = search (sendable, crosses) depth 100 fits 20000

pub compact_sync : IsSync (compact.the_field).row
compact_sync = search (sendable, crosses) depth 100 fits 20000

pub compact_mask_send : IsSend (compact_mask.the_field).row
compact_mask_send = search (sendable, crosses, compact_send) depth 100 fits 20000

pub compact_mask_sync : IsSync (compact_mask.the_field).row
compact_mask_sync = search (sendable, crosses, compact_sync) depth 100 fits 20000

pub filter_send : IsSend (filter.the_field).row
filter_send = search (sendable, crosses) depth 100 fits 20000

pub filter_sync : IsSync (filter.the_field).row
filter_sync = search (sendable, crosses) depth 100 fits 20000
