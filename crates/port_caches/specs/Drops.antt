-- Entries that are paid and dropped one after the other.
use Rattle.std.specs.Prelude.{ℕ, List, [], ◌∷◌, Option, Some, None}
use Rattle.spec_board.specs.State.{Total}
use Rattle.spec_board.specs.Effects.{credited}
use Rattle.megaflow_table.specs.declared.entry.Entry.{Entry}
use Rattle.megaflow_table.specs.Entries.{ForEntry, entry_of, without}
use Rattle.port_caches.specs.Steps.{AreRules}

-- the rules of an entry are credited with what it owes
abbrev pub credited_with : Option Entry → (ℕ → Total) → ℕ → Total
credited_with (Some e) totals = credited e.visits e.owed_packets e.owed_bytes totals
credited_with None totals = totals

-- the totals once the entries of these numbers are paid, and the entries once they are dropped
abbrev pub totals_after : List ℕ → List Entry → (ℕ → Total) → ℕ → Total
totals_after [] entries totals = totals
totals_after (n ∷ numbers) entries totals = totals_after numbers (without n entries) (credited_with (entry_of n entries) totals)

abbrev pub entries_after : List ℕ → List Entry → List Entry
entries_after [] entries = entries
entries_after (n ∷ numbers) entries = entries_after numbers (without n entries)

-- Each of these numbers is live when its turn comes, and its entry visits rules.
abbrev pub ArePayable : ℕ → List ℕ → List Entry → Type 0
ArePayable rules [] entries = Unit {0}
ArePayable rules (n ∷ numbers) entries = ForEntry n entries (λ e. AreRules rules e.visits) × ArePayable rules numbers (without n entries)
