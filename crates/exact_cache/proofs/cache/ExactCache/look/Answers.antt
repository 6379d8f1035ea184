use Rattle.std.proofs.Common.{List, ap, ◌∙◌}
use Rattle.spec_board.specs.State.{Slot}
use Rattle.spec_board.specs.Cache.{cached}
use Rattle.ovs_fields.specs.declared.key.Key.{Key}
use Rattle.ovs_fields.specs.Packed.{numbers}
use Rattle.exact_cache.specs.Kept.{slots_view}
use Rattle.exact_cache.proofs.cache.ExactCache.look.Goals as goal

pub returns-clause-entry : goal.returns-clause-entry
returns-clause-entry c =
    c.look_by_hash.ensures.entry
    ∙ ap (λ (k : Key). cached (slots_view c.self.inside.slots) (numbers k)) c.of.ensures
    ∙ ap (λ (l : List Slot). cached l (numbers c.args.key.now)) c.self.view_is
