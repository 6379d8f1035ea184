use Rattle.std.proofs.Common.{◌≡◌, ◌-◌, List, ◌++◌, length, drop, replicate, refl, ap, ◌∙◌, append_assoc}
use Rattle.std.proofs.lemmas.Result.{on_ok_weaker}
use Rattle.spec_actions.specs.declared.action.DpAction.{DpAction}
use Rattle.spec_actions.specs.declared.action.DpAction.TheVariants.{PopVlan}
use Rattle.dp_actions.specs.TagLists.{pushing}
use Rattle.dp_actions.proofs.TagSteps.{turned}
use Rattle.dp_actions.proofs.changes.append_tags.Goals as goal

-- two pieces that were appended
appended : (start one two first second all : List DpAction) → one ≡ start ++ first → two ≡ one ++ second → first ++ second ≡ all → two ≡ start ++ all
appended start one two first second all a b e = b ∙ ap (λ xs. xs ++ second) a ∙ append_assoc start first second ∙ ap (λ xs. start ++ xs) e

pub returns-clause-ok : goal.returns-clause-ok
returns-clause-ok c =
    let before = c.args.before.now in
    let after = c.args.after.now in
    let n = c.shared-shared.result in
    let popped : c.append_pops.new.out ≡ c.args.out.now ++ replicate (length before - n) PopVlan = c.in_ok-append_pops.ensures.ok in
    on_ok_weaker c.append_pushes.result
    (λ e.
    appended c.args.out.now c.append_pops.new.out c.append_pushes.new.out (replicate (length before - n) PopVlan) (pushing (drop n after)) _ popped (e ∙ ap (λ xs. c.append_pops.new.out ++ pushing xs) c.split_at.ensures.back)
    (turned before after n c.shared-shared.ensures.before c.shared-shared.ensures.after (length before - n) refl))
    c.append_pushes.ensures.ok
