use Rattle.std.proofs.Common.{◌≡◌, None, subst}
use Rattle.spec_input.specs.Script.{Script, with_bundle}
use Rattle.edit_script.specs.Begun.{begun_view}
use Rattle.edit_script.specs.ScriptViews.{kept_view}
use Rattle.edit_script.specs.WellFormed.{IsWellFormed}
use Rattle.edit_script.proofs.WellFormed.{formed_with_bundle}
use Rattle.edit_script.proofs.script.with_commit.Goals as goal

pub returns-clause-formed : goal.returns-clause-formed
returns-clause-formed c =
    let said : with_bundle (kept_view c.args.reading.kept) ≡ kept_view c.in_ok-kept.kept = cc c.in_ok-kept.ensures.value in
    subst (λ (s : Script). IsWellFormed (record { said = s; begun = None })) said
    (formed_with_bundle (kept_view c.args.reading.kept) (begun_view c.args.reading.begun) c.requires.formed)
