use Rattle.std.proofs.Common.{◌≡◌, ◌+◌, ◌∙◌, subst, arith}
use Rattle.rx_worker.specs.Polls.{Took}
use Rattle.rx_worker.proofs.Polls.{took_more, rose_either, each_more, few_more}
use Rattle.rx_worker.proofs.polling.give_misses.Goals as goal

pub turns-preserved : goal.turns-preserved
turns-preserved g c =
    let port = c.args.port in
    let first = c.args.batch.first in
    let turn = c.turns.turn in
    let one = c.give_if_missed-one in
    let before = g.Q.Upcalls.given c.args.queue.now in
    let then = g.Q.Upcalls.given c.turns.queue in
    let after = g.Q.Upcalls.given one.new.queue in
    let next : first + turn + 1 ≡ first + (turn + 1) = omega arith in
    let took = subst (λ to. Took port (first + turn) to then one.result.given after) next one.ensures.took in record {
      rest = one.ensures.rest ∙ c.turns.invariant.rest;
      took = took_more port first (first + turn) (first + (turn + 1)) c.turns.given one.result.given before then after c.turns.invariant.took took;
      each = each_more c.args.batch.missed turn c.turns.given c.turns.refused one.result.given one.result.refused c.is_missed-missed.result c.turns.invariant.each one.ensures.one c.is_missed-missed.ensures;
      few = few_more turn c.turns.given c.turns.refused one.result.given one.result.refused c.is_missed-missed.result c.turns.invariant.few one.ensures.one;
      count = omega (arith, c.turns.invariant.count, one.ensures.count);
      refused = rose_either _ _ _ c.turns.refused one.result.refused c.turns.invariant.count one.ensures.count c.turns.invariant.refused one.ensures.refused;
    }
