use Rattle.std.proofs.Common.{refl}
use Rattle.rule_tables.proofs.Placed.{index_moved}
use Rattle.rule_tables.proofs.places.RulePlaces.reserve.Goals as goal

pub returns-in_err-reserve-clause-placed : goal.returns-in_err-reserve-clause-placed
returns-in_err-reserve-clause-placed c stored placed = index_moved _ _ _ _ stored stored (λ hash. c.in_err-reserve.ensures.entries.2 hash) refl refl placed

pub returns-clause-placed : goal.returns-clause-placed
returns-clause-placed c stored placed = index_moved _ _ _ _ stored stored (λ hash. c.in_ok-reserve.ensures.entries.2 hash) c.reserve-2.ensures.items refl placed
