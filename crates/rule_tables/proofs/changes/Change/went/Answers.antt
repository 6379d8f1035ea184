use Rattle.std.proofs.Common.{◌≡◌, length, sym, ap, ◌∙◌, arith}
use Rattle.std.specs.Prelude.{slice_get}
use Rattle.std.proofs.lemmas.List.{length-map}
use Rattle.std.proofs.lemmas.Option.{slice_get-map}
use Rattle.rule_tables.specs.Changes.{Changed, went_at}
use Rattle.rule_tables.proofs.changes.Change.went.Goals as goal

pub went_in-requires : goal.went_in-requires
went_in-requires c =
    let all : length c.args.self.now.went ≡ length c.self.inside.ended.now =
    sym (ap (λ (a : Changed). length a.went) c.self.view_is) ∙ length-map c.self.inside.ended.now (went_at c.self.inside.rules.now c.self.inside.before) in
    omega (arith, c.requires)

pub returns : goal.returns
returns c =
    sym (ap (λ (a : Changed). slice_get a.went c.args.place) c.self.view_is)
    ∙ slice_get-map (went_at c.self.inside.rules.now c.self.inside.before) c.self.inside.ended.now c.args.place ∙ c.went_in.ensures
