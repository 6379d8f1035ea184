-- The rules after each edit, as they are stored, and the room for more.
use Rattle.std.specs.Prelude.{◌≡◌, ◌-◌, ◌≤◌, min, vec_len, vec_capacity}
use Rattle.rule_tables.specs.declared.edited.EditedRules.TheInside.{Inside}
use Rattle.rule_tables.specs.Edited.{Edited}
use Rattle.rule_tables.specs.Ends.{AreEnds}
use Rattle.rule_tables.specs.Givings.{IsLog}
use Rattle.rule_tables.specs.History.{EditHistory, states_to}
use Rattle.rule_tables.specs.RulePlaces.{room_in, ArePlaced}
use Rattle.rule_tables.specs.Stored.{rules_at, signatures_in, AreConsistent}

abbrev pub history_in : Inside → EditHistory
history_in a = record { states = states_to a.last (λ n. rules_at a.modifications.items n a.rules.items); changes = a.changes }

abbrev pub edited_in : Inside → Edited
edited_in a = record {
  history = history_in a;
  adds =
      min (min (min (vec_capacity a.rules - vec_len a.rules) (room_in a.places)) (vec_capacity a.signatures - vec_len a.signatures))
      (vec_capacity a.ends - vec_len a.rules);
  modifies = vec_capacity a.modifications - vec_len a.modifications;
}

-- What is stored is consistent, the log is one of it, the places, the signatures and the ends are those of its rules; and there
-- is room for the end of each life.
pub record IsConsistent (a : Inside) : Type 0 where
  pub consistent : AreConsistent a.modifications.items a.rules.items a.last a.changes
  pub log : IsLog a.log a.modifications.items a.rules.items
  pub placed : ArePlaced a.places a.rules.items
  pub signed : a.signatures.items ≡ signatures_in a.rules.items
  pub ends : AreEnds a.ends.items a.rules.items a.last
  pub room : vec_len a.rules ≤ vec_capacity a.ends
