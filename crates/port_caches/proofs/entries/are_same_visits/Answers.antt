use Rattle.std.proofs.Common.{◌∙◌}
use Rattle.port_caches.proofs.SameTranslations.{visits_same}
use Rattle.port_caches.proofs.entries.are_same_visits.Goals as goal

pub returns : goal.returns
returns c = c.eq.ensures ∙ visits_same c.args.a.now c.args.b.now
