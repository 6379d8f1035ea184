use Rattle.std.proofs.Common.{◌≡◌, sym, subst}
use Rattle.std.specs.Prelude.{IsTrue, IfOk, IfErr, Result, Ok}
use Rattle.std.proofs.lemmas.Result.{err_from_is_err_and}
use Rattle.edit_script.specs.ScriptViews.{script_view}
use Rattle.spec_tools.specs.TraceVerdict.{Refusal, Accepted, opened_for}
use Rattle.trace_app.specs.Commands.{command_view}
use Rattle.trace_app.specs.InputViews.{accepted_view}
use Rattle.trace_app.specs.Refused.{Explains}
use Rattle.trace_app.proofs.Stages.{of_explains, of-script, reads_ending}
use Rattle.trace_app.proofs.inputs.read_sources.Goals as goal

pub returns-in_err-edits-clause-err : goal.returns-in_err-edits-clause-err
returns-in_err-edits-clause-err g c = λ t.
    let p = err_from_is_err_and c.from_residual.result c.from_residual.ensures.1 in
    rw (p.1, p.2) (of_explains (g.S.Shelf.told c.args.shelf.now).holds (command_view c.args.command) c.in_err-edits.field-0.0 (c.in_err-edits.ensures.err t))

pub returns-clause-ok : goal.returns-clause-ok
returns-clause-ok g c = λ t.
    subst (λ (z : Result Accepted Refusal). IfOk c.inputs_of.result (λ inputs. z ≡ Ok (accepted_view inputs)))
    (sym (of-script (g.S.Shelf.told c.args.shelf.now).holds (command_view c.args.command) (script_view c.in_ok-edits.edits.script) (c.in_ok-edits.ensures.ok t))) c.inputs_of.ensures.ok

pub returns-clause-err : goal.returns-clause-err
returns-clause-err g c = λ t.
    subst (λ (z : Result Accepted Refusal). IfErr c.inputs_of.result (Explains z))
    (sym (of-script (g.S.Shelf.told c.args.shelf.now).holds (command_view c.args.command) (script_view c.in_ok-edits.edits.script) (c.in_ok-edits.ensures.ok t))) c.inputs_of.ensures.err

-- ---- what is read

pub returns-in_err-edits-clause-reads : goal.returns-in_err-edits-clause-reads
returns-in_err-edits-clause-reads g c =
    let p = err_from_is_err_and c.from_residual.result c.from_residual.ensures.1 in
    rw (p.1, p.2) c.in_err-edits.ensures.reads

pub returns-clause-reads : goal.returns-clause-reads
returns-clause-reads g c =
    reads_ending (IsTrue g.S.Shelf.tells) g.S.Shelf c.args.shelf.now c.read_edits.new.shelf (opened_for (command_view c.args.command)) c.in_ok-edits.ensures.reads
    c.inputs_of.result c.inputs_of.ensures.no_fault
