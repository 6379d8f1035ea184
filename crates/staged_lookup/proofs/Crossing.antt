-- That a subtable may go to another thread and be shared, part by part: one search through all of its fields would not come
-- to an end.
use denote.Param.Send.{IsSend, IsSync, sendable}
use Rattle.std.proofs.Crossing.{crosses}
pub use Rattle.masked_map.proofs.Crossing.{key_send, key_sync, mask_send, mask_sync}
use Rattle.masked_map.proofs.Crossing.{compact_send, compact_sync, compact_mask_send, compact_mask_sync, filter_send, filter_sync}
use Rattle.staged_lookup.specs.contracts.bucket.Bucket as bucket
use Rattle.staged_lookup.specs.contracts.stage.Stage as stage
use Rattle.staged_lookup.specs.contracts.subtable.Subtable as subtable

bucket_send : IsSend (bucket.the_field).row
bucket_send = search (sendable, crosses) depth 100 fits 20000

bucket_sync : IsSync (bucket.the_field).row
bucket_sync = search (sendable, crosses) depth 100 fits 20000

stage_send : IsSend (stage.the_field).row
stage_send = search (sendable, crosses, key_send, mask_send, compact_send, compact_mask_send, filter_send) depth 100 fits 20000

stage_sync : IsSync (stage.the_field).row
stage_sync = search (sendable, crosses, key_sync, mask_sync, compact_sync, compact_mask_sync, filter_sync) depth 100 fits 20000

pub subtable_send : IsSend (subtable.the_field).row
subtable_send = search (sendable, crosses, stage_send, bucket_send, key_send, mask_send, compact_send, compact_mask_send, filter_send) depth 100 fits 20000

pub subtable_sync : IsSync (subtable.the_field).row
subtable_sync = search (sendable, crosses, stage_sync, bucket_sync, key_sync, mask_sync, compact_sync, compact_mask_sync, filter_sync) depth 100 fits 20000
