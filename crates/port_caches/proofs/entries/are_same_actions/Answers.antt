use Rattle.std.proofs.Common.{◌∙◌}
use Rattle.port_caches.proofs.SameTranslations.{actions_same}
use Rattle.port_caches.proofs.entries.are_same_actions.Goals as goal

pub returns : goal.returns
returns c = c.eq.ensures ∙ actions_same c.args.a.now c.args.b.now
