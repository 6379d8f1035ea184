use Rattle.std.proofs.Common.{ap₂, ◌∙◌}
use Rattle.std.proofs.lemmas.Result.{on_ok_weaker}
use Rattle.spec_xlate.specs.Commit.{commit}
use Rattle.spec_xlate.specs.Tags.{commit_tags}
use Rattle.dp_actions.proofs.CommitSteps.{in_three_parts}
use Rattle.dp_actions.proofs.changes.append_changes.Goals as goal

pub returns-clause-ok : goal.returns-clause-ok
unfolding commit
returns-clause-ok c =
    on_ok_weaker c.append_fields-2.result
    (λ e. in_three_parts _ _ _ _ _ _ _ _ c.in_ok-append_fields.ensures.ok c.in_ok-append_tags.ensures.ok (ap₂ commit_tags (c.as_slice.ensures ∙ c.of.ensures) (c.as_slice-2.ensures ∙ c.of-2.ensures)) e)
    c.append_fields-2.ensures.ok
