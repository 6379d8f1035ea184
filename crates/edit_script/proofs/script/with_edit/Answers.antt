use Rattle.std.proofs.Common.{◌≡◌, ◌<◌, length, subst, arith}
use Rattle.edit_script.proofs.Told.{length_told}
use Rattle.spec_input.specs.Script.{Script, most_edits, with_edit_in}
use Rattle.edit_script.specs.Begun.{begun_view}
use Rattle.edit_script.specs.ScriptViews.{kept_view, reading_view}
use Rattle.edit_script.specs.WellFormed.{IsWellFormed}
use Rattle.edit_script.proofs.WellFormed.{formed_with_edit}
use Rattle.edit_script.proofs.script.with_edit.Goals as goal

pub returns-clause-formed : goal.returns-clause-formed
returns-clause-formed c =
    let room : length (kept_view c.args.reading.kept).edits < most_edits = omega (arith, length_told c.args.reading.kept.said, c.len.ensures, c.if-len-ge-MOST_EDITS.false) in
    let said : with_edit_in (begun_view c.args.reading.begun) c.in_ok-edit.edit (kept_view c.args.reading.kept) ≡ kept_view c.in_ok-kept.kept = cc c.in_ok-kept.ensures.value in
    subst (λ (s : Script). IsWellFormed (record { said = s; begun = begun_view c.args.reading.begun })) said
    (formed_with_edit (reading_view c.args.reading) c.in_ok-edit.edit c.requires.formed c.in_ok-edit.ensures.sound room)
