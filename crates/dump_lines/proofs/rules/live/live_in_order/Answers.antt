use Rattle.std.proofs.Common.{◌∙◌, sym, ap, subst}
use Rattle.std.specs.Prelude.{All}
use Rattle.dump_lines.specs.declared.rules.places.RulePlace.{RulePlace}
use Rattle.dump_lines.specs.Live.{IsLiveIn, live_in}
use Rattle.dump_lines.specs.Order.{places_in_order}
use Rattle.dump_lines.proofs.rules.InOrder.{places-in_order}
use Rattle.dump_lines.proofs.rules.Listed.{places_live}
use Rattle.dump_lines.proofs.rules.live.live_in_order.Goals as goal

pub returns-clause-places : goal.returns-clause-places
returns-clause-places c =
    c.in_ok-sort_places.ensures ∙ ap places_in_order c.in_ok-places.ensures ∙ places-in_order (live_in c.args.rules.now)

pub returns-clause-live : goal.returns-clause-live
returns-clause-live c =
    let P = λ (p : RulePlace). IsLiveIn c.args.rules.now p.number in
    let same = c.in_ok-sort_places.ensures ∙ ap places_in_order c.in_ok-places.ensures ∙ places-in_order (live_in c.args.rules.now) in
    subst (All P) (sym same) (places_live c.args.rules.now c.requires)
