use Rattle.std.proofs.Common.{List, sym, subst}
use Rattle.spec_tools.specs.Lines.{IsListed}
use Rattle.class_list.specs.declared.line.Line.{Line}
use Rattle.class_list.specs.LineViews.{lines_view}
use Rattle.class_list.proofs.shortening.shorter.Goals as goal

pub returns-then-listed : goal.returns-then-listed
returns-then-listed c o n told =
    let Listed : List Line → Type 0 = λ ls. IsListed o n c.args.ports.now (lines_view ls) in
    subst Listed c.deref.ensures.value (c.in_ok-listed.ensures c.if-listed.true o n (subst Listed (sym c.deref-2.ensures.value) told))
