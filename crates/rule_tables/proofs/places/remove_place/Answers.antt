use Rattle.std.proofs.Common.{◌==◌, not, rules}
use Rattle.std.proofs.lemmas.Fn.{filter_same}
use Rattle.rule_tables.proofs.places.remove_place.Goals as goal

pub returns-clause-items : goal.returns-clause-items
returns-clause-items c =
    filter_same _ (λ other. not (other == c.args.place)) _ (λ x b f k. search rules) c.args.others.now.items c.retain.new.self.items c.retain.ensures.filtered
