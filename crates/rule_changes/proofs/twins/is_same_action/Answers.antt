use Rattle.std.proofs.Common.{◌&&◌, ◌==◌, sym, ◌∙◌, eqb-true}
use Rattle.std.proofs.lemmas.Bool.{and_parts}
use Rattle.spec_actions.specs.declared.action.OfAction.TheVariants.{Set}
use Rattle.rule_changes.proofs.SameActions.{same_name}
use Rattle.rule_changes.proofs.twins.is_same_action.Goals as goal

pub returns-in-Set-Set : goal.returns-in-Set-Set
returns-in-Set-Set c h =
    let i = c.in-Set-Set in
    let parts = and_parts c.eq.result ((i.value == i.other_value) && (i.mask == i.other_mask)) h in
    let numbers = and_parts (i.value == i.other_value) (i.mask == i.other_mask) parts.1 in
    let name = same_name i.name i.other_name (sym c.eq.ensures ∙ parts.0) in
    let value = eqb-true i.value i.other_value numbers.0 in
    let mask = eqb-true i.mask i.other_mask numbers.1 in
    i.is-0 ∙ (λ j. Set (name j) (value j) (mask j)) ∙ sym i.is-1
