use Rattle.std.proofs.Common.{◌≡◌, sym, ap, ◌∙◌, subst}
use Rattle.std.specs.Prelude.{IsTrue, IfOk, IfErr, Result, Ok}
use Rattle.std.proofs.lemmas.Result.{err_from_is_err_and}
use Rattle.spec_run.specs.Verdict.{Files}
use Rattle.edit_script.specs.ScriptViews.{script_view}
use Rattle.switch_input.proofs.refusals.Reading.{reads_after}
use Rattle.switch_input.proofs.Walk.{holds_kept}
use Rattle.spec_tools.specs.DiffVerdict.{Refusal, Accepted, case_of}
use Rattle.diff_app.specs.Commands.{command_view}
use Rattle.diff_app.specs.InputViews.{accepted_view}
use Rattle.diff_app.specs.Refused.{Explains}
use Rattle.diff_app.proofs.Stages.{of_explains, of-script, old_opened, new_opened}
use Rattle.diff_app.proofs.inputs.read_sources.Goals as goal

pub returns-in_err-old-clause-err : goal.returns-in_err-old-clause-err
returns-in_err-old-clause-err g c = λ t.
    let p = err_from_is_err_and c.from_residual.result c.from_residual.ensures.1 in
    rw (p.1, p.2) (of_explains (g.S.Shelf.told c.args.shelf.now).holds (command_view c.args.command) c.in_err-old.field-0.0 (c.in_err-old.ensures.err t))

pub returns-in_err-old-clause-reads : goal.returns-in_err-old-clause-reads
returns-in_err-old-clause-reads g c =
    let p = err_from_is_err_and c.from_residual.result c.from_residual.ensures.1 in
    let read = c.in_err-old.ensures.reads in
    rw (p.1, p.2) (record {
      counts = read.counts;
      since = read.since;
      named = read.named;
      only_read = read.only_read;
      opened = λ t. old_opened (g.S.Shelf.told c.args.shelf.now).holds (command_view c.args.command) (g.S.Shelf.told c.args.shelf.now) (g.S.Shelf.told c.read_edits.new.shelf)
          c.in_err-old.field-0.0 (c.in_err-old.ensures.err t) (read.opened t);
    })

pub returns-clause-ok : goal.returns-clause-ok
returns-clause-ok g c = λ t.
    let before = g.S.Shelf.told c.args.shelf.now in
    let mid = g.S.Shelf.told c.read_edits.new.shelf in
    let command = command_view c.args.command in
    let s = script_view c.in_ok-old.old.script in
    let same : case_of mid.holds command s ≡ case_of before.holds command s = ap (λ (f : Files). case_of f command s) (holds_kept before mid (c.in_ok-old.ensures.reads.only_read t)) in
    subst (λ (z : Result Accepted Refusal). IfOk c.read_new.result (λ inputs. z ≡ Ok (accepted_view inputs)))
    (same ∙ sym (of-script before.holds command s (c.in_ok-old.ensures.ok t))) (c.read_new.ensures.ok t)

pub returns-clause-err : goal.returns-clause-err
returns-clause-err g c = λ t.
    let before = g.S.Shelf.told c.args.shelf.now in
    let mid = g.S.Shelf.told c.read_edits.new.shelf in
    let command = command_view c.args.command in
    let s = script_view c.in_ok-old.old.script in
    let same : case_of mid.holds command s ≡ case_of before.holds command s = ap (λ (f : Files). case_of f command s) (holds_kept before mid (c.in_ok-old.ensures.reads.only_read t)) in
    subst (λ (z : Result Accepted Refusal). IfErr c.read_new.result (Explains z))
    (same ∙ sym (of-script before.holds command s (c.in_ok-old.ensures.ok t))) (c.read_new.ensures.err t)

pub returns-clause-reads : goal.returns-clause-reads
returns-clause-reads g c =
    let old = c.in_ok-old.ensures.reads in
    reads_after (IsTrue g.S.Shelf.tells) g.S.Shelf c.args.shelf.now c.read_edits.new.shelf c.read_new.new.shelf old.counts old.only_read _ _ _ c.read_new.ensures.reads
    (λ t. new_opened (g.S.Shelf.told c.args.shelf.now).holds (command_view c.args.command) (g.S.Shelf.told c.args.shelf.now) (g.S.Shelf.told c.read_edits.new.shelf)
    (g.S.Shelf.told c.read_new.new.shelf) (old.opened t) (script_view c.in_ok-old.old.script) (c.in_ok-old.ensures.ok t) _ (c.read_new.ensures.reads.opened t))
