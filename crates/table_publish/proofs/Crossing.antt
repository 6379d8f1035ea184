-- That editors, seers and news may go to another thread, part by part: one search through all of their fields would not come
-- to an end.
use denote.RattleType.{RattleType}
use denote.Struct.Field as field
use denote.Param.Send.{IsSend, IsSync, sendable}
use Rattle.std.proofs.Crossing.{crosses}
use Rattle.std.specs.declared.clone.Clone as clone
use Rattle.atomic_table.proofs.send_lease.SendLease.TheSendSync as lease
use Rattle.atomic_table.proofs.shared.Seat.TheSendSync as seat
use Rattle.atomic_table.proofs.shared.Shared.TheSendSync as shared
use Rattle.left_right.proofs.part.Deed.TheSendSync as deed
use Rattle.left_right.proofs.part.Part.TheSendSync as part
use Rattle.left_right.specs.declared.Absorb as absorb
use Rattle.run_case.specs.declared.case.Case.{Ghosts}
use Rattle.table_versions.specs.declared.tables.RunTables as run_tables
use Rattle.table_versions.specs.declared.tables.Tables.{Tables}
use Rattle.table_versions.specs.contracts.tables.Tables as tables
use Rattle.table_versions.specs.declared.next_version.NextVersion.{NextVersion}
use Rattle.table_publish.specs.contracts.editor.Editor as editor
use Rattle.table_publish.specs.contracts.seer.Seer as seer
use Rattle.table_publish.specs.contracts.seer.News as news

tables_sync : (C T S : RattleType) (g : Ghosts C.Denot) (t : run_tables.Ghosts T.Denot C.Denot S.Denot) → IsSync C → IsSync T → IsSync (tables.the_row C T S g t)
tables_sync C T S g t c kept = search (sendable, crosses) depth 40

module _ (C T S : RattleType) (g : Ghosts C.Denot) (t : run_tables.Ghosts T.Denot C.Denot S.Denot) (k : clone.Ghosts S.Denot) (c : IsSend C) (shared_c : IsSync C) (kept : IsSend T) (shared_kept : IsSync T) where
  pub editor_send : (a : absorb.Ghosts (Tables C.Denot T.Denot S.Denot) (NextVersion C.Denot) (field.u64-field).Value) → IsSend (editor.the_row C T S a g t k)
  editor_send a = search (sendable, crosses, part.the_send, deed.the_send, lease.the_send, lease.the_sync, seat.the_send, shared.the_send, shared.the_sync, tables_sync) depth 100 fits 20000

  pub seer_send : IsSend (seer.the_row C T S g t k)
  seer_send = search (sendable, crosses, part.the_send, lease.the_send, lease.the_sync, seat.the_send, shared.the_send, shared.the_sync, tables_sync) depth 100 fits 20000

  pub news_send : IsSend (news.the_row C T S g t k)
  news_send = search (sendable, crosses, part.the_send, lease.the_send, lease.the_sync, seat.the_send, shared.the_send, shared.the_sync, tables_sync) depth 100 fits 20000
