use Rattle.std.proofs.Common.{◌≡◌, ◌-◌, ◌∷◌, None, option_map, arith, refl, sym, ap, ◌∙◌}
use Rattle.spec_flow_text.specs.Addresses.{groups}
use Rattle.text_numbers.specs.Groups.{counted}
use Rattle.text_numbers.proofs.GroupSteps.{no_room, last_of_all, first_of_all, others_refused, others_read}
use Rattle.text_numbers.proofs.addresses.+read_groups.Goals as goal

pub returns-then-room-eq0-clause-value : goal.returns-then-room-eq0-clause-value
returns-then-room-eq0-clause-value t c = ap (option_map counted) (sym (no_room c.args.with_ipv4 c.args.room c.args.text.now c.if-room-eq0.true))

pub returns-in_err-first-in-Some-clause-value : goal.returns-in_err-first-in-Some-clause-value
returns-in_err-first-in-Some-clause-value t c =
    let refused : groups c.args.with_ipv4 c.args.room c.args.text.now ≡ None = first_of_all c.args.with_ipv4 c.args.room c.args.text.now c.in-Some.front.now c.in-Some.rest.now (omega arith) (sym c.in-Some.ensures) ∙ (rw (← c.in_err-first-in-Some.ensures.value) refl) in
    c.from_residual.ensures ∙ ap (option_map counted) (sym refused)

pub returns-in_err-others-in-Some-clause-value : goal.returns-in_err-others-in-Some-clause-value
returns-in_err-others-in-Some-clause-value t c =
    let read : groups c.args.with_ipv4 c.args.room c.args.text.now ≡ option_map (λ all. c.in_ok-first-in-Some.first ∷ all) (groups c.args.with_ipv4 (c.args.room - 1) c.in-Some.rest.now) =
    first_of_all c.args.with_ipv4 c.args.room c.args.text.now c.in-Some.front.now c.in-Some.rest.now (omega arith) (sym c.in-Some.ensures) ∙ (rw (← c.in_ok-first-in-Some.ensures.value) refl) in
    c.from_residual-in_err-others-in-Some.ensures ∙ sym (ap (option_map counted) read ∙ others_refused c.in_ok-first-in-Some.first _ c.in_err-others-in-Some.ensures.value)

pub returns-in-None-clause-value : goal.returns-in-None-clause-value
returns-in-None-clause-value t c = c.read_last_groups.ensures.value ∙ ap (option_map counted) (sym (last_of_all c.args.with_ipv4 c.args.room c.args.text.now (omega arith) (sym c.in-None.ensures)))

pub returns-in_ok-others-in-Some-clause-value : goal.returns-in_ok-others-in-Some-clause-value
returns-in_ok-others-in-Some-clause-value t c =
    let read : groups c.args.with_ipv4 c.args.room c.args.text.now ≡ option_map (λ all. c.in_ok-first-in-Some.first ∷ all) (groups c.args.with_ipv4 (c.args.room - 1) c.in-Some.rest.now) =
    first_of_all c.args.with_ipv4 c.args.room c.args.text.now c.in-Some.front.now c.in-Some.rest.now (omega arith) (sym c.in-Some.ensures) ∙ (rw (← c.in_ok-first-in-Some.ensures.value) refl) in
    sym (ap (option_map counted) read ∙ others_read c.in_ok-first-in-Some.first c.in_ok-others-in-Some.others c.before-in-Some.result _ c.in_ok-others-in-Some.ensures.value c.before-in-Some.ensures.value)
