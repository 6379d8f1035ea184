use Rattle.std.proofs.Common.{◌≡◌, ◌-◌, ◌≤◌, length, take}
use Rattle.std.specs.Prelude.{IsTrue}
use Rattle.edge_io.specs.Shelf.{wrote}
use Rattle.edge_io.specs.declared.outside.InUse.TheVariants.{Created}
use Rattle.edge_io.proofs.writing.write_all.Given as goal

abbrev pub invariant-loop-at : goal.invariant-loop-at
invariant-loop-at g l = record {
  within : l.at ≤ length l.bytes;
  in_use : g.S.Shelf.in_use l.shelf ≡ Created;
  told : IsTrue g.S.Shelf.tells →
      g.S.Shelf.told l.shelf ≡ wrote (g.S.Shelf.told l.initial.shelf) (take l.at l.bytes);
  since : IsTrue g.S.Shelf.tells → g.S.Shelf.counts_at_last l.shelf ≡ g.S.Shelf.counts_at_last l.initial.shelf;
  counts : g.S.Shelf.counts l.shelf ≡ g.S.Shelf.counts l.initial.shelf;
}

abbrev pub decreases-loop-at : goal.decreases-loop-at
decreases-loop-at g l = length l.bytes - l.at
