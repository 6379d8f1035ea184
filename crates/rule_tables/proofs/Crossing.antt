-- That rules and edits may go to another thread and be shared, part by part: one search through all of their fields would not
-- come to an end.
use denote.Param.Send.{IsSend, IsSync, sendable}
use Rattle.std.proofs.Crossing.{crosses}
use Rattle.std.proofs.MapsCrossing.{HashMap-send, HashMap-sync}
use Rattle.ovs_fields.proofs.Crossing.{key_send, key_sync, mask_send, mask_sync}
use Rattle.spec_keys.specs.contracts.field_id.FieldId as field_id
use Rattle.spec_actions.specs.contracts.named_field.NamedField as name
use Rattle.spec_actions.specs.contracts.action.Slice as slice
use Rattle.spec_actions.specs.contracts.action.OfAction as action
use Rattle.rule_tables.specs.contracts.actions.Actions as actions
use Rattle.rule_tables.specs.contracts.edit.Edit as edit
use Rattle.rule_tables.specs.contracts.matching.Match as matching
use Rattle.rule_tables.specs.contracts.rule.Rule as rule
use Rattle.rule_tables.specs.contracts.places.RulePlaces as places
use Rattle.rule_tables.specs.contracts.stored.Modification as modification
use Rattle.rule_tables.specs.contracts.stored.StoredRule as stored
use Rattle.rule_tables.specs.contracts.givings.Giving as giving
use Rattle.rule_tables.specs.contracts.givings.GivingLog as log
use Rattle.rule_tables.specs.contracts.ending.Ending as ending
use Rattle.rule_tables.specs.contracts.signatures.signature.Signature as signature
use Rattle.rule_tables.specs.contracts.edited.EditedRules as edited
use Rattle.rule_tables.specs.contracts.versions.VersionedRules as versions

pub field_id_send : IsSend (field_id.the_field).row
field_id_send = search (sendable, crosses) depth 100 fits 20000

pub field_id_sync : IsSync (field_id.the_field).row
field_id_sync = search (sendable, crosses) depth 100 fits 20000

name_send : IsSend (name.the_field).row
name_send = search (sendable, crosses) depth 100 fits 20000

name_sync : IsSync (name.the_field).row
name_sync = search (sendable, crosses) depth 100 fits 20000

slice_send : IsSend (slice.the_field).row
slice_send = search (sendable, crosses, name_send) depth 100 fits 20000

slice_sync : IsSync (slice.the_field).row
slice_sync = search (sendable, crosses, name_sync) depth 100 fits 20000

action_send : IsSend (action.the_field).row
action_send = search (sendable, crosses, slice_send, name_send) depth 100 fits 20000

action_sync : IsSync (action.the_field).row
action_sync = search (sendable, crosses, slice_sync, name_sync) depth 100 fits 20000

pub actions_send : IsSend (actions.the_field).row
actions_send = search (sendable, crosses, action_send) depth 100 fits 20000

pub actions_sync : IsSync (actions.the_field).row
actions_sync = search (sendable, crosses, action_sync) depth 100 fits 20000

pub matching_send : IsSend (matching.the_field).row
matching_send = search (sendable, crosses, key_send, mask_send) depth 100 fits 20000

pub matching_sync : IsSync (matching.the_field).row
matching_sync = search (sendable, crosses, key_sync, mask_sync) depth 100 fits 20000

pub edit_send : IsSend edit.the_row
edit_send = search (sendable, crosses, actions_send, matching_send) depth 100 fits 20000

pub edit_sync : IsSync edit.the_row
edit_sync = search (sendable, crosses, actions_sync, matching_sync) depth 100 fits 20000

rule_send : IsSend (rule.the_field).row
rule_send = search (sendable, crosses, matching_send) depth 100 fits 20000

rule_sync : IsSync (rule.the_field).row
rule_sync = search (sendable, crosses, matching_sync) depth 100 fits 20000

edit_field_send : IsSend (edit.the_field).row
edit_field_send = search (sendable, crosses, actions_send, matching_send) depth 100 fits 20000

edit_field_sync : IsSync (edit.the_field).row
edit_field_sync = search (sendable, crosses, actions_sync, matching_sync) depth 100 fits 20000

modification_send : IsSend (modification.the_field).row
modification_send = search (sendable, crosses, edit_field_send) depth 100 fits 20000

modification_sync : IsSync (modification.the_field).row
modification_sync = search (sendable, crosses, edit_field_sync) depth 100 fits 20000

stored_send : IsSend (stored.the_field).row
stored_send = search (sendable, crosses, rule_send, actions_send) depth 100 fits 20000

stored_sync : IsSync (stored.the_field).row
stored_sync = search (sendable, crosses, rule_sync, actions_sync) depth 100 fits 20000

giving_send : IsSend (giving.the_field).row
giving_send = search (sendable, crosses) depth 100 fits 20000

giving_sync : IsSync (giving.the_field).row
giving_sync = search (sendable, crosses) depth 100 fits 20000

log_send : IsSend (log.the_field).row
log_send = search (sendable, crosses, giving_send) depth 100 fits 20000

log_sync : IsSync (log.the_field).row
log_sync = search (sendable, crosses, giving_sync) depth 100 fits 20000

ending_send : IsSend (ending.the_field).row
ending_send = search (sendable, crosses) depth 100 fits 20000

ending_sync : IsSync (ending.the_field).row
ending_sync = search (sendable, crosses) depth 100 fits 20000

signature_send : IsSend (signature.the_field).row
signature_send = search (sendable, crosses) depth 100 fits 20000

signature_sync : IsSync (signature.the_field).row
signature_sync = search (sendable, crosses) depth 100 fits 20000

places_send : IsSend (places.the_field).row
places_send = search (sendable, crosses, HashMap-send) depth 100 fits 20000

places_sync : IsSync (places.the_field).row
places_sync = search (sendable, crosses, HashMap-sync) depth 100 fits 20000

edited_send : IsSend (edited.the_field).row
edited_send = search (sendable, crosses, stored_send, modification_send, log_send, places_send, ending_send, signature_send) depth 100 fits 20000

edited_sync : IsSync (edited.the_field).row
edited_sync = search (sendable, crosses, stored_sync, modification_sync, log_sync, places_sync, ending_sync, signature_sync) depth 100 fits 20000

pub versions_send : IsSend (versions.the_field).row
versions_send = search (sendable, crosses, edited_send) depth 100 fits 20000

pub versions_sync : IsSync (versions.the_field).row
versions_sync = search (sendable, crosses, edited_sync) depth 100 fits 20000
