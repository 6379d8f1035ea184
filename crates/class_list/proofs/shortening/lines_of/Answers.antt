use Rattle.std.proofs.Common.{List, sym, subst}
use Rattle.std.proofs.lemmas.Result.{IfOk-weaker}
use Rattle.spec_xlate.specs.Translation.{switch_of}
use Rattle.spec_tools.specs.Lines as spec
use Rattle.spec_tools.specs.Lines.{IsListed}
use Rattle.dump_lines.specs.Live.{live_in}
use Rattle.table_diff.specs.Cubes.{classes_view}
use Rattle.class_list.proofs.ClassLaws.{listed_classes}
use Rattle.class_list.proofs.shortening.lines_of.Goals as goal

pub returns : goal.returns
returns c =
    let o = switch_of (live_in c.args.old.now) c.args.ports.now in
    let n = switch_of (live_in c.args.new.now) c.args.ports.now in
    let told = subst (λ (ls : List spec.Line). IsListed o n c.args.ports.now ls) (sym c.in_ok-told.ensures)
    (listed_classes o n c.args.ports.now (classes_view c.args.classes.now) c.requires.difference) in
    IfOk-weaker c.shorter.result _ _ (λ lines listed. listed o n told) c.shorter.ensures
