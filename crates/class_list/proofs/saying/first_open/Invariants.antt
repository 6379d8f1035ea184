use Rattle.class_list.proofs.SaidLaws.{ArePassed}
use Rattle.class_list.proofs.saying.first_open.Given as goal

abbrev pub invariant-lines : goal.invariant-lines
invariant-lines l = ArePassed l.lines l.cube l.line-index
