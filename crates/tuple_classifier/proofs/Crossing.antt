-- That tables may go to another thread and be shared, part by part: one search through all of their fields would not come to
-- an end.
use denote.Param.Send.{IsSend, IsSync, sendable}
use denote.Ref.{NamedLft}
use Rattle.std.proofs.Crossing.{crosses}
use Rattle.address_prefixes.proofs.tracker.Crossing.{prefix_trie_send, prefix_trie_sync}
use Rattle.staged_lookup.proofs.Crossing.{mask_send, mask_sync, subtable_send as staged_send, subtable_sync as staged_sync}
use Rattle.rule_tables.proofs.Crossing.{field_id_send, field_id_sync, versions_sync}
use Rattle.address_prefixes.specs.contracts.address_prefixes.MaskPrefixes as mask_prefixes
use Rattle.address_prefixes.specs.contracts.address_prefixes.AddressPrefixes as prefixes
use Rattle.tuple_classifier.specs.contracts.sorted.SortedNumbers as sorted
use Rattle.tuple_classifier.specs.contracts.indexes.Indexes as indexes
use Rattle.tuple_classifier.specs.contracts.subtable.Subtable as subtable
use Rattle.tuple_classifier.specs.contracts.subtables.Subtables as subtables
use Rattle.tuple_classifier.specs.contracts.table.Table as table
use Rattle.tuple_classifier.specs.contracts.tables.Tables as tables

mask_prefixes_send : IsSend (mask_prefixes.the_field).row
mask_prefixes_send = search (sendable, crosses, field_id_send) depth 100 fits 20000

mask_prefixes_sync : IsSync (mask_prefixes.the_field).row
mask_prefixes_sync = search (sendable, crosses, field_id_sync) depth 100 fits 20000

sorted_send : IsSend (sorted.the_field).row
sorted_send = search (sendable, crosses) depth 100 fits 20000

sorted_sync : IsSync (sorted.the_field).row
sorted_sync = search (sendable, crosses) depth 100 fits 20000

indexes_send : IsSend (indexes.the_field).row
indexes_send = search (sendable, crosses, mask_prefixes_send, sorted_send) depth 100 fits 20000

indexes_sync : IsSync (indexes.the_field).row
indexes_sync = search (sendable, crosses, mask_prefixes_sync, sorted_sync) depth 100 fits 20000

subtable_send : IsSend (subtable.the_field).row
subtable_send = search (sendable, crosses, staged_send, indexes_send) depth 100 fits 20000

subtable_sync : IsSync (subtable.the_field).row
subtable_sync = search (sendable, crosses, staged_sync, indexes_sync) depth 100 fits 20000

subtables_send : IsSend (subtables.the_field).row
subtables_send = search (sendable, crosses, mask_send, subtable_send) depth 100 fits 20000

subtables_sync : IsSync (subtables.the_field).row
subtables_sync = search (sendable, crosses, mask_sync, subtable_sync) depth 100 fits 20000

prefixes_send : IsSend (prefixes.the_field).row
prefixes_send = search (sendable, crosses, prefix_trie_send) depth 100 fits 20000

prefixes_sync : IsSync (prefixes.the_field).row
prefixes_sync = search (sendable, crosses, prefix_trie_sync) depth 100 fits 20000

table_send : IsSend (table.the_field).row
table_send = search (sendable, crosses, prefixes_send, subtables_send) depth 100 fits 20000

table_sync : IsSync (table.the_field).row
table_sync = search (sendable, crosses, prefixes_sync, subtables_sync) depth 100 fits 20000

pub tables_send : (ℓ : NamedLft) → IsSend (tables.the_field ℓ).row
tables_send ℓ = search (sendable, crosses, versions_sync, table_send) depth 100 fits 20000

pub tables_sync : (ℓ : NamedLft) → IsSync (tables.the_field ℓ).row
tables_sync ℓ = search (sendable, crosses, versions_sync, table_sync) depth 100 fits 20000
