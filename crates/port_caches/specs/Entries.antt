-- Entries by themselves: as they begin, and what becomes of one that is revalidated.
use Rattle.std.specs.Prelude.{◌≡◌, ℕ, List}
use Rattle.spec_actions.specs.declared.action.DpAction.{DpAction}
use Rattle.spec_xlate.specs.Translation.{Translation}
use Rattle.spec_board.specs.State.{State}
use Rattle.spec_board.specs.Results.{put_of}
use Rattle.spec_board.specs.declared.put_done.PutDone.{PutDone}
use Rattle.ovs_fields.specs.declared.key.Key.{Key}
use Rattle.ovs_fields.specs.declared.mask.Mask.{Mask}
use Rattle.megaflow_table.specs.declared.entry.Entry.{Entry}
use Rattle.port_caches.specs.declared.lists.HeldList.{HeldList}
use Rattle.port_caches.specs.Views.{actions_at, entry_view}

-- one that decided no packet yet
abbrev pub unused_entry : ℕ → Key → Mask → ℕ → ℕ → List ℕ → ℕ → Entry
unused_entry number key mask version actions visits used = record {
  number = number;
  key = key;
  mask = mask;
  version = version;
  actions = actions;
  visits = visits;
  packets = 0;
  bytes = 0;
  owed_packets = 0;
  owed_bytes = 0;
  used = used;
}

-- this is what a put at a time makes of one that has its own actions in some lists
abbrev pub IsJudged : Entry → List DpAction → Translation → List ℕ → ℕ → PutDone → Type 0
IsJudged e own t mask clock done = (lists : List HeldList) (s : State) → actions_at lists e.actions ≡ own → s.clock ≡ clock → done ≡ put_of (entry_view lists e) t mask s
