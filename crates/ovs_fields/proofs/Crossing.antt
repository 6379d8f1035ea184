-- That keys and masks may go to another thread and be shared. A search through the fields of what holds them needs these, or
-- it would not come to an end.
use denote.Param.Send.{IsSend, IsSync, struct_send, struct_sync, sendable}
use denote.Struct.Declared.{shape}
use Rattle.std.proofs.Crossing.{crosses}
use Rattle.ovs_fields.specs.contracts.fields.Fields as fields
use Rattle.ovs_fields.specs.contracts.key.Key as key
use Rattle.ovs_fields.specs.contracts.mask.Mask as mask

fields_send : IsSend (fields.the_field).row
fields_send = struct_send (shape fields.the_type) (search (sendable, crosses) depth 200 fits 200000)

fields_sync : IsSync (fields.the_field).row
fields_sync = struct_sync (shape fields.the_type) (search (sendable, crosses) depth 200 fits 200000)

pub key_send : IsSend (key.the_field).row
key_send = search (sendable, crosses, fields_send) depth 100 fits 20000

pub key_sync : IsSync (key.the_field).row
key_sync = search (sendable, crosses, fields_sync) depth 100 fits 20000

pub mask_send : IsSend (mask.the_field).row
mask_send = search (sendable, crosses, fields_send) depth 100 fits 20000

pub mask_sync : IsSync (mask.the_field).row
mask_sync = search (sendable, crosses, fields_sync) depth 100 fits 20000
