use Rattle.std.proofs.Common.{◌≡◌, length, sym, ap, ◌∙◌, arith}
use Rattle.std.specs.Prelude.{slice_get}
use Rattle.std.proofs.lemmas.List.{length-map}
use Rattle.std.proofs.lemmas.Option.{slice_get-map}
use Rattle.rule_tables.specs.Changes.{Changed, came_at}
use Rattle.rule_tables.proofs.changes.Change.came.Goals as goal

pub came_in-requires : goal.came_in-requires
came_in-requires c =
    let all : length c.args.self.now.came ≡ length c.self.inside.added.now =
    sym (ap (λ (a : Changed). length a.came) c.self.view_is) ∙ length-map c.self.inside.added.now (came_at c.self.inside.after) in
    omega (arith, c.requires)

pub returns : goal.returns
returns c =
    sym (ap (λ (a : Changed). slice_get a.came c.args.place) c.self.view_is)
    ∙ slice_get-map (came_at c.self.inside.after) c.self.inside.added.now c.args.place ∙ c.came_in.ensures
