use Rattle.std.proofs.Common.{ap, ◌∙◌}
use Rattle.spec_board.specs.Cache.{cached}
use Rattle.ovs_fields.specs.Packed.{numbers}
use Rattle.port_caches.specs.Views.{Caches}
use Rattle.port_caches.proofs.caches.PortCaches.look.Goals as goal

pub known-requires : goal.known-requires
known-requires c = c.look-exact.ensures.entry ∙ ap (λ (v : Caches). cached v.slots (numbers c.args.key.now)) c.self.view_is
