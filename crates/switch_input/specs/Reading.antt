-- What reading files does to a shelf.
use Rattle.std.specs.Prelude.{◌≡◌, ℕ, List, IsTrue}
use Rattle.edge_io.specs.declared.outside.Shelf as shelf
use Rattle.edge_io.specs.Counts.{Counts, ReadFailed}
use Rattle.edge_io.specs.Shelf.{Told}
use Rattle.edge_io.specs.Opened.{HasOpened, HasOpenedPrefix, HasOpenedUpTo}
use Rattle.edge_io.specs.ReadAll.{OnlyRead}

-- How reading ended: no call failed, whatever was found in the files; one did, in the file of this name; or memory ran out.
pub data Ending : Type 0 where
  Read : Ending
  FailedIn : List ℕ → Ending
  RanOut : Ending

-- This holds of the name of the file in which a call failed.
abbrev pub IfFailed : Ending → (List ℕ → Type 0) → Type 0
IfFailed Read P = Unit {0}
IfFailed (FailedIn name) P = P name
IfFailed RanOut P = Unit {0}

-- The count of reading rose where a call failed, and else both counts stand.
abbrev pub HasCounted : Counts → Counts → Ending → Type 0
HasCounted before now Read = now ≡ before
HasCounted before now (FailedIn name) = ReadFailed before now
HasCounted before now RanOut = now ≡ before

-- Of these files all were opened, those up to the one at which reading failed, or, out of memory, a prefix.
abbrev pub HasOpenedUntil : Told → Told → List (List ℕ) → Ending → Type 0
HasOpenedUntil before now names Read = HasOpened before now names
HasOpenedUntil before now names (FailedIn name) = HasOpenedUpTo before now names name
HasOpenedUntil before now names RanOut = HasOpenedPrefix before now names

-- Files of these names are read, one after the other. A fault is told of the file that was asked for last, before
-- which no call failed. What is said of names and bytes holds where they are known.
pub record ReadsWhere (knows : Type 0) {S : Type 0} (g : shelf.Ghosts S) (old new : S) (names : List (List ℕ)) (ending : Ending) : Type 0 where
  pub counts : HasCounted (g.counts old) (g.counts new) ending
  pub since : knows → IfFailed ending (λ _. g.counts_at_last new ≡ g.counts old)
  pub named : knows → IfFailed ending (λ name. (g.told new).last ≡ name)
  pub only_read : knows → OnlyRead (g.told old) (g.told new)
  pub opened : knows → HasOpenedUntil (g.told old) (g.told new) names ending

-- The same, where the shelf tells them.
abbrev pub ReadsFiles : {S : Type 0} → shelf.Ghosts S → S → S → List (List ℕ) → Ending → Type 0
ReadsFiles g = ReadsWhere (IsTrue g.tells) g
