use Rattle.std.proofs.Common.{◌≡◌, ℕ, ◌+◌, ◌<◌, ◌≤◌, List, [], ◌∷◌, length, get_or, drop, sym, ap, ◌∙◌}
use Rattle.std.proofs.Math.ListN.{drop_of_length-le}
use Rattle.std.proofs.lemmas.List.{drop_more}
use Rattle.spec_keys.specs.declared.field_id.FieldId.{FieldId}
use Rattle.spec_actions.specs.declared.action.DpAction.{DpAction}
use Rattle.table_diff.specs.Sending.{number_after}
use Rattle.table_diff.proofs.NumberLaws.{number_after-append}
use Rattle.table_diff.proofs.sent.number_after.Goals as goal

-- one action more
next : (f : FieldId) (actions : List DpAction) (i : ℕ) (d : DpAction) (x y all : ℕ) → i < length actions → y ≡ number_after f (get_or actions i d ∷ []) x
    → number_after f (drop i actions) x ≡ all → number_after f (drop (i + 1) actions) y ≡ all
next f actions i d x y all within one so_far =
    ap (number_after f (drop (i + 1) actions)) one
    ∙ sym (number_after-append f (get_or actions i d ∷ []) (drop (i + 1) actions) x)
    ∙ ap (λ (ds : List DpAction). number_after f ds x) (sym (drop_more actions i d within))
    ∙ so_far

pub actions-preserved : goal.actions-preserved
actions-preserved c =
    next c.args.field c.args.actions.now c.actions.action-index _ c.actions.after c.after_one-after.result (number_after c.args.field c.args.actions.now c.args.number)
    c.actions-test.true c.after_one-after.ensures c.actions.invariant

pub returns : goal.returns
returns c =
    let past : length c.args.actions.now ≤ c.actions.action-index = c.actions-test.false in
    ap (λ (ds : List DpAction). number_after c.args.field ds c.actions.after) (sym (drop_of_length-le c.args.actions.now past))
    ∙ c.actions.invariant
