use Rattle.std.proofs.Common.{refl}
use Rattle.class_list.proofs.ListLaws.{class_step, class_end}
use Rattle.class_list.proofs.line.class_lines.Goals as goal

pub classes-preserved : goal.classes-preserved
classes-preserved c =
    class_step c.classes.lines.items c.push.new.self.items _ c.args.classes.now c.classes.class-index c.class-item.result _ c.classes-test.true c.class-item.is
    c.in_ok-push.ensures.items refl c.classes.invariant

pub returns : goal.returns
returns c = class_end c.classes.lines.items c.args.classes.now c.classes.class-index _ c.classes-test.false c.classes.invariant
