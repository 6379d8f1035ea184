use Rattle.std.proofs.Common.{refl}
use Rattle.ovs_fields.specs.Packed.{numbers}
use Rattle.exact_cache.proofs.KeptSlots.{written-with_cached}
use Rattle.exact_cache.proofs.cache.ExactCache.put.Goals as goal

pub returns : goal.returns
returns c =
    written-with_cached c.self.inside.slots c.write-place.new.slots c.args.self.now (numbers c.args.key.key.now) c.args.entry _ c.self.invariant c.write-place.ensures.cache
    c.self.view_is c.slot_for.ensures.slot refl refl c.write-place.ensures.written
