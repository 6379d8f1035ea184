-- How many pieces a list of actions sends.
use Rattle.std.proofs.Common.{◌≡◌, ℕ, List, [], ◌∷◌, length, refl, arith}
use Rattle.std.specs.Prelude.{count_by}
use Rattle.std.proofs.lemmas.List.Sums.{sum_by-cons}
use Rattle.std.proofs.Common.{cond}
use Rattle.spec_actions.specs.declared.action.DpAction.{DpAction}
use Rattle.spec_actions.specs.declared.action.DpAction.TheVariants.{Output, PopVlan, PushVlan, Set}
use Rattle.spec_exec.specs.Rewriting.{after_action}
use Rattle.spec_exec.specs.Sent.{is_output, sent}

-- as many as it has outputs, whatever the frame is
pub length-sent : (actions : List DpAction) (bytes : List ℕ) → length (sent actions bytes) ≡ count_by is_output actions
unfolding sent
length-sent [] bytes = refl
length-sent (Output port ∷ actions) bytes =
    let cons = sum_by-cons (λ action. cond (is_output action) 1 0) (Output port) actions in
    omega (arith, cons, length-sent actions bytes)
length-sent (PopVlan ∷ actions) bytes =
    let cons = sum_by-cons (λ action. cond (is_output action) 1 0) PopVlan actions in
    omega (arith, cons, length-sent actions (after_action PopVlan bytes))
length-sent (PushVlan tpid tci ∷ actions) bytes =
    let cons = sum_by-cons (λ action. cond (is_output action) 1 0) (PushVlan tpid tci) actions in
    omega (arith, cons, length-sent actions (after_action (PushVlan tpid tci) bytes))
length-sent (Set field value mask ∷ actions) bytes =
    let cons = sum_by-cons (λ action. cond (is_output action) 1 0) (Set field value mask) actions in
    omega (arith, cons, length-sent actions (after_action (Set field value mask) bytes))
