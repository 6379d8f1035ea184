-- What caches are seen as, and what holds of their parts.
use Rattle.std.specs.Prelude.{◌≢◌, ℕ, ◌<◌, ◌≤◌, List, [], ◌∷◌, length, map, vec_len}
use Rattle.megaflow_table.specs.declared.entry.Entry as flows
use Rattle.port_caches.specs.declared.caches.PortCaches.TheInside.{Inside}
use Rattle.port_caches.specs.Lists.{room_in, most_lists}
use Rattle.port_caches.specs.Views.{Caches, entry_view}
use Rattle.port_caches.specs.Steps.{AreRules}

abbrev pub caches_in : Inside → Caches
caches_in a = record {
  limit = a.flows.limit;
  entries = map (entry_view a.lists.items) a.flows.entries;
  made = a.made;
  slots = a.exact;
  rules = length a.totals;
  totals = a.totals;
  lists = a.lists.items;
  room = room_in a.lists;
}

-- An entry names one of so many lists, has one of the numbers that were given out, and visits rules.
pub record IsKeptEntry (lists made rules : ℕ) (e : flows.Entry) : Type 0 where
  pub list : e.actions < lists
  pub number : e.number ≤ made
  pub visits : AreRules rules e.visits

-- It has another number and another list than these.
abbrev pub IsApart : flows.Entry → List flows.Entry → Type 0
IsApart e [] = Unit {0}
IsApart e (f ∷ entries) = (e.number ≢ f.number) × (e.actions ≢ f.actions) × IsApart e entries

abbrev pub AreKept : ℕ → ℕ → ℕ → List flows.Entry → Type 0
AreKept lists made rules [] = Unit {0}
AreKept lists made rules (e ∷ entries) = IsKeptEntry lists made rules e × IsApart e entries × AreKept lists made rules entries

pub record IsKept (a : Inside) : Type 0 where
  pub entries : AreKept (length a.lists.items) a.made (length a.totals) a.flows.entries
  pub few : vec_len a.lists ≤ most_lists
