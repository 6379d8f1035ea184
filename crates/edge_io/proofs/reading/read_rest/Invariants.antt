use Rattle.std.proofs.Common.{◌≡◌, ◌+◌, ◌-◌, ◌<◌, ◌++◌, length, vec_len}
use Rattle.std.specs.Prelude.{IsTrue}
use Rattle.edge_io.specs.declared.outside.InUse.TheVariants.{Opened}
use Rattle.edge_io.proofs.reading.read_rest.Given as goal

abbrev pub invariant-pieces : goal.invariant-pieces
invariant-pieces g l = record {
  in_use : g.S.Shelf.in_use l.shelf ≡ Opened;
  room : 0 < length l.piece;
  bytes : IsTrue g.S.Shelf.tells →
      l.bytes.items ++ (g.S.Shelf.told l.shelf).left ≡ (g.S.Shelf.told l.initial.shelf).left;
  told : IsTrue g.S.Shelf.tells →
      g.S.Shelf.told l.shelf ≡ record (g.S.Shelf.told l.initial.shelf) { left = (g.S.Shelf.told l.shelf).left };
  since : IsTrue g.S.Shelf.tells → g.S.Shelf.counts_at_last l.shelf ≡ g.S.Shelf.counts_at_last l.initial.shelf;
  counts : g.S.Shelf.counts l.shelf ≡ g.S.Shelf.counts l.initial.shelf;
}

abbrev pub decreases-pieces : goal.decreases-pieces
decreases-pieces g l = l.max + 1 - vec_len l.bytes
