use Rattle.std.proofs.Common.{◌≡◌, length, Ok, sym, ap, ◌∙◌, arith}
use Rattle.std.proofs.lemmas.Bool.Decides.{nat_tests}
use Rattle.action_text.proofs.ListSteps.{no_item}
use Rattle.action_text.proofs.actions.read_list.Goals as goal

pub returns-clause-value : goal.returns-clause-value
returns-clause-value c =
    let empty : length c.items.rest.text.now ≡ 0 = grind (arith, nat_tests) in
    sym c.items.invariant.so_far ∙ no_item c.items.actions.items c.items.rest.at c.items.rest.text.now empty
    ∙ ap Ok (sym c.shrink_to_fit.ensures.items)
