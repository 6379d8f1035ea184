use Rattle.std.proofs.Common.{sym, ap, ◌∙◌}
use Rattle.std.specs.Prelude.{Result, Ok}
use Rattle.std.proofs.lemmas.Result.{err_from_is_err_and}
use Rattle.edit_script.specs.ScriptViews.{script_view}
use Rattle.spec_tools.specs.DiffVerdict.{Refusal, Accepted}
use Rattle.diff_app.specs.Commands.{command_view}
use Rattle.diff_app.proofs.Stages.{case_explains, case-accepted}
use Rattle.diff_app.proofs.inputs.read_new.Goals as goal

pub returns-in_err-new-clause-err : goal.returns-in_err-new-clause-err
returns-in_err-new-clause-err g c = λ t.
    let p = err_from_is_err_and c.from_residual.result c.from_residual.ensures.1 in
    rw (p.1, p.2) (case_explains (g.S.Shelf.told c.args.shelf.now).holds (command_view c.args.command) (script_view c.args.old.script) c.in_err-new.field-0.0 (c.in_err-new.ensures.err t))

pub returns-clause-ok : goal.returns-clause-ok
returns-clause-ok g c = λ t.
    let taken : Accepted → Result Accepted Refusal = Ok in
    case-accepted (g.S.Shelf.told c.args.shelf.now).holds (command_view c.args.command) (script_view c.args.old.script) (script_view c.in_ok-new.new.script) (c.in_ok-new.ensures.ok t)
    ∙ ap taken (sym c.inputs_of.ensures.view)

pub returns-in_err-new-clause-reads : goal.returns-in_err-new-clause-reads
returns-in_err-new-clause-reads g c =
    let p = err_from_is_err_and c.from_residual.result c.from_residual.ensures.1 in
    rw (p.1, p.2) c.in_err-new.ensures.reads
