use Rattle.exact_cache.proofs.KeptSlots.{empty_cache}
use Rattle.exact_cache.proofs.slots.empty_slots.Goals as goal

pub returns-clause-cache : goal.returns-clause-cache
returns-clause-cache c = empty_cache _ (c.in_ok-index.ensures.items_if_clones_equal (λ n is. is)) c.in_ok-kept.ensures.items c.in_ok-kept.ensures.capacity
