use Rattle.std.proofs.Common.{◌≡◌, ◌<◌, length, Err, option_map, sym, ap, ◌∙◌, arith}
use Rattle.std.proofs.lemmas.Bool.Decides.{nat_tests}
use Rattle.spec_actions.specs.declared.action.OfAction.TheVariants.{Resubmit}
use Rattle.spec_flow_text.specs.declared.fault.TextFault.TheVariants as fault
use Rattle.spec_flow_text.specs.Items.{column}
use Rattle.spec_flow_text.specs.Actions.{skipping, value_or_fault}
use Rattle.field_text.specs.WordViews.{word_view}
use Rattle.action_text.proofs.ArgumentLists.{table_argument}
use Rattle.action_text.proofs.resubmit.table_of_arguments.Goals as goal

pub returns-in-Some-read_number-clause-value : goal.returns-in-Some-read_number-clause-value
returns-in-Some-read_number-clause-value c =
    let no_port : length c.in-Some.port.now ≡ 0 = grind (arith, nat_tests) in
    let some : 0 < length c.in-Some.rest.now = grind (arith, nat_tests) in
    let said = table_argument (word_view c.args.item) (word_view c.args.inside) c.args.inside.text.now c.in-Some.port.now c.in-Some.rest.now c.in-Some.ensures no_port c.in_default-cut_at.ensures some in
    sym (said ∙ ap (λ o. value_or_fault (skipping 1 (word_view c.args.inside)) (option_map (λ n. Resubmit n) o)) (sym c.in-Some-read_number.ensures.value))

pub returns-in-None-clause-value : goal.returns-in-None-clause-value
returns-in-None-clause-value c =
    let no_port : length c.in-Some.port.now ≡ 0 = grind (arith, nat_tests) in
    let some : 0 < length c.in-Some.rest.now = grind (arith, nat_tests) in
    let said = table_argument (word_view c.args.item) (word_view c.args.inside) c.args.inside.text.now c.in-Some.port.now c.in-Some.rest.now c.in-Some.ensures no_port c.in_default-cut_at.ensures some in
    sym (said ∙ ap (λ o. value_or_fault (skipping 1 (word_view c.args.inside)) (option_map (λ n. Resubmit n) o)) (sym c.in-None.ensures.value)
    ∙ ap (λ w. Err (fault.BadValue (column w))) (sym c.skipping.ensures) ∙ ap (λ n. Err (fault.BadValue n)) (sym c.column-in-None.ensures))
