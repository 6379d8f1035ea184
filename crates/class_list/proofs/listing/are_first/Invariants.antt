use Rattle.class_list.specs.Listing.{AreFirst}
use Rattle.class_list.proofs.listing.are_first.Given as goal

abbrev pub invariant-lines : goal.invariant-lines
invariant-lines l = AreFirst l.lines l.i
