use Rattle.std.proofs.Common.{rules, ◌≡◌, ◌++◌, if◌then◌else◌, [], ◌∷◌, Option, sym, ap, ◌∙◌}
use Rattle.std.specs.Borrow.{Bor}
use Rattle.spec_tools.specs.Lines.{differs}
use Rattle.table_diff.specs.declared.class.Class.{Class}
use Rattle.table_diff.specs.Cubes.{cube_view, cubes_view}
use Rattle.table_diff.proofs.HoldLaws.{cubes-push}
use Rattle.class_list.specs.LineViews.{said_view}
use Rattle.class_list.proofs.agreeing.add_cube.Goals as goal

pub returns-in_ok-push-in-Some : goal.returns-in_ok-push-in-Some
returns-in_ok-push-in-Some c =
    let line = c.args.line.now in
    let work = c.args.work.now.items in
    let more : c.push.new.self.items ≡ work ++ line.cube ∷ [] = search rules in
    ap cubes_view more ∙ cubes-push work line.cube
    ∙ sym (ap (λ (class : Option (Bor Class)). cubes_view work ++ (if differs (said_view class) then cube_view line.cube ∷ [] else [])) c.in-Some.is)
