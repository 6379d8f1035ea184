use Rattle.std.proofs.Common.{rules}
use Rattle.std.proofs.lemmas.Fn.{filter_same}
use Rattle.staged_lookup.specs.Ranks.{is_other}
use Rattle.staged_lookup.proofs.bucket.keep_others.Goals as goal

pub returns : goal.returns
returns c = filter_same _ (is_other c.args.number) _ (λ x b f k. search rules) c.args.ranks.now.items c.retain.new.self.items c.retain.ensures.filtered
