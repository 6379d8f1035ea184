use Rattle.std.proofs.Common.{ℕ, List, slice_index, ◌+◌, sym, ap, ◌∙◌, arith}
use Rattle.spec_actions.specs.declared.action.DpAction.TheVariants.{PopVlan, PushVlan}
use Rattle.exec_laws.proofs.Within.{act-whole, counted-tagged, tagged-size}
use Rattle.exec_laws.proofs.Tags.{push-before, push-after, pop-before, pop-after}
use Rattle.exec_laws.proofs.lengths.tags_stand_after_the_addresses.Goals as goal

pub returns-clause-push_before : goal.returns-clause-push_before
returns-clause-push_before c tpid tci frame whole i l = ap (λ (z : List ℕ). slice_index z i) (act-whole (PushVlan tpid tci) frame whole) ∙ push-before frame whole tpid tci i l

pub returns-clause-push_after : goal.returns-clause-push_after
returns-clause-push_after c tpid tci frame whole i l = ap (λ (z : List ℕ). slice_index z (i + 4)) (act-whole (PushVlan tpid tci) frame whole) ∙ push-after frame whole tpid tci i l

pub returns-clause-pop_before : goal.returns-clause-pop_before
returns-clause-pop_before c frame some i l =
    let tagged = counted-tagged frame some in
    let size = tagged-size frame tagged in ap (λ (z : List ℕ). slice_index z i) (act-whole PopVlan frame (omega (arith, size))) ∙ pop-before frame tagged i l

pub returns-clause-pop_after : goal.returns-clause-pop_after
returns-clause-pop_after c frame some i l =
    let tagged = counted-tagged frame some in
    let size = tagged-size frame tagged in ap (λ (z : List ℕ). slice_index z i) (act-whole PopVlan frame (omega (arith, size))) ∙ sym (pop-after frame tagged i l)
