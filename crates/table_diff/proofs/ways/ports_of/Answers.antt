use Rattle.std.proofs.Common.{◌≡◌, ℕ, ◌+◌, ◌<◌, ◌≤◌, List, [], ◌∷◌, ◌++◌, length, get_or, drop, sym, ap, ◌∙◌, append_assoc}
use Rattle.std.proofs.Math.ListN.{drop_of_length-le}
use Rattle.std.proofs.lemmas.List.{append-nil, drop_more}
use Rattle.spec_actions.specs.declared.action.DpAction.{DpAction}
use Rattle.table_diff.specs.Sending.{ports_in}
use Rattle.table_diff.proofs.EmitLaws.{ports_in-append}
use Rattle.table_diff.proofs.ways.ports_of.Goals as goal

-- one action more
next : (actions : List DpAction) (i : ℕ) (d : DpAction) (ports ports' all : List ℕ) → i < length actions → ports' ≡ ports ++ ports_in (get_or actions i d ∷ [])
    → ports ++ ports_in (drop i actions) ≡ all → ports' ++ ports_in (drop (i + 1) actions) ≡ all
next actions i d ports ports' all within more so_far =
    ap (λ (z : List ℕ). z ++ ports_in (drop (i + 1) actions)) more
    ∙ append_assoc ports (ports_in (get_or actions i d ∷ [])) (ports_in (drop (i + 1) actions))
    ∙ ap (λ (z : List ℕ). ports ++ z) (sym (ports_in-append (get_or actions i d ∷ []) (drop (i + 1) actions)) ∙ ap ports_in (sym (drop_more actions i d within)))
    ∙ so_far

pub actions-preserved : goal.actions-preserved
actions-preserved c =
    next c.args.actions.now c.actions.action-index _ c.actions.ports.items c.add_port.new.ports.items (ports_in c.args.actions.now) c.actions-test.true c.in_ok-add_port.ensures
    c.actions.invariant

pub returns : goal.returns
returns c =
    let past : length c.args.actions.now ≤ c.actions.action-index = c.actions-test.false in
    sym (append-nil c.actions.ports.items)
    ∙ ap (λ (xs : List DpAction). c.actions.ports.items ++ ports_in xs) (sym (drop_of_length-le c.args.actions.now past))
    ∙ c.actions.invariant
