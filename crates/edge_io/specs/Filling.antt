-- What is asked of a closure that fills a created file, and what it writes.
use Rattle.std.specs.Prelude.{◌≡◌, ℕ, List, Result}
use Rattle.std.specs.Borrow.{MutBor}
use Rattle.edge_io.specs.declared.outside.Failed.{Failed}
use Rattle.edge_io.specs.declared.outside.InUse.TheVariants.{Created}
use Rattle.edge_io.specs.declared.outside.Shelf as shelf
use Rattle.edge_io.specs.Written.{WritesAll}

module _ {S : Type 0} (g : shelf.Ghosts S) where
  -- It may be called where a created file is in use.
  abbrev pub IsCallableOnCreated : (MutBor S → Type 0) → Type 0
  IsCallableOnCreated pre = (s : MutBor S) → g.in_use s.now ≡ Created → pre s

  -- Its calls write these bytes, where a created file is in use.
  abbrev pub Fills : (MutBor S → Result (Unit {0}) Failed → MutBor S → Type 0) → List ℕ → Type 0
  Fills post bytes = (before : MutBor S) (r : Result (Unit {0}) Failed) (after : MutBor S) → g.in_use before.now ≡ Created
      → post before r after → WritesAll g before.now after.now bytes r

  -- A call of it may answer this.
  abbrev pub MayAnswer : (MutBor S → Result (Unit {0}) Failed → MutBor S → Type 0) → Result (Unit {0}) Failed → Type 0
  MayAnswer post r = (before : MutBor S) × (after : MutBor S) × post before r after
