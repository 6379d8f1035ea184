use Rattle.std.proofs.Common.{rules, ◌≡◌, ◌++◌, List, [], ◌∷◌, sym, subst}
use Rattle.table_diff.specs.declared.cube.Cube.{Cube}
use Rattle.table_diff.specs.Cubes.{cubes_view}
use Rattle.class_list.specs.Agreeing.{HaveTheSame}
use Rattle.class_list.proofs.HoldLaws.{halved}
use Rattle.class_list.proofs.agreeing.halve.Goals as goal

pub returns : goal.returns
returns c =
    let more : c.push.new.self.items ≡ c.split_bit.new.work.items ++ c.split_bit.new.cube ∷ [] = search rules in
    subst (λ (z : List Cube). HaveTheSame (cubes_view (c.args.work.now.items ++ c.args.cube ∷ [])) (cubes_view z)) (sym more)
    (halved c.args.work.now.items c.args.cube c.split_bit.new.work.items c.split_bit.new.cube c.in_ok-split_bit.ensures.split)
