-- A megaflow as the definitions see it.
use Rattle.std.specs.Prelude.{List}
use Rattle.spec_actions.specs.declared.action.DpAction.{DpAction}
use Rattle.spec_tables.specs.Rules.{Match}
use Rattle.spec_board.specs.State.{Entry}
use Rattle.ovs_fields.specs.declared.key.Key.{Key}
use Rattle.ovs_fields.specs.declared.mask.Mask.{Mask}
use Rattle.ovs_fields.specs.Packed.{numbers, bits}
use Rattle.megaflow_table.specs.declared.entry.Entry as flows

-- an entry with these actions, which stand elsewhere
abbrev pub entry_with : List DpAction → flows.Entry → Entry
entry_with actions e = record {
  number = e.number;
  key = numbers e.key;
  mask = bits e.mask;
  version = e.version;
  actions = actions;
  visits = e.visits;
  packets = e.packets;
  bytes = e.bytes;
  owed_packets = e.owed_packets;
  owed_bytes = e.owed_bytes;
  used = e.used;
}

-- what a key and a mask state
abbrev pub match_of : Key → Mask → Match
match_of key mask = record { key = numbers key; mask = bits mask }
