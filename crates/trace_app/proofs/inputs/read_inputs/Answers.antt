use Rattle.std.proofs.Common.{◌≡◌, ℕ, List, None, Some, sym, ap, ◌∙◌, subst}
use Rattle.std.specs.Prelude.{IsTrue, IfOk, IfErr, Result, Ok}
use Rattle.std.specs.Option.{option_map}
use Rattle.std.proofs.lemmas.Result.{err_from_is_err_and}
use Rattle.command_words.specs.CommandViews.{texts}
use Rattle.spec_tools.specs.TraceWords.{command_of}
use Rattle.spec_tools.specs.TraceVerdict.{Refusal, Accepted}
use Rattle.trace_app.specs.Commands.{command_view}
use Rattle.trace_app.specs.InputViews.{accepted_view}
use Rattle.switch_input.specs.Reading.{Read, ReadsWhere}
use Rattle.switch_input.proofs.refusals.Reading.{reads_none, reads_unbegun, reads_knowing}
use Rattle.trace_app.specs.Known.{IsKnown}
use Rattle.trace_app.specs.Refused.{Explains, ending_of}
use Rattle.trace_app.proofs.Stages.{known-some, usage-never, command-none, words-none, words-some, opened-none, opened-some}
use Rattle.trace_app.proofs.inputs.read_inputs.Goals as goal

pub returns-in-None-clause-err : goal.returns-in-None-clause-err
returns-in-None-clause-err g c = λ t.
    let e : command_of (texts c.args.words.now) ≡ None = sym c.in_ok-read_command.ensures ∙ ap (option_map command_view) c.in-None.is in
    words-none (texts c.args.words.now) (g.S.Shelf.told c.args.shelf.now).holds e

pub returns-in-None-clause-reads : goal.returns-in-None-clause-reads
returns-in-None-clause-reads g c =
    let e : command_of (texts c.args.words.now) ≡ None = sym c.in_ok-read_command.ensures ∙ ap (option_map command_view) c.in-None.is in
    let knows = IsKnown g.S.Shelf.tells (texts c.args.words.now) in
    subst (λ (names : List (List ℕ)). ReadsWhere knows g.S.Shelf c.args.shelf.now c.args.shelf.now names Read) (sym (opened-none (texts c.args.words.now) e))
    (reads_none knows g.S.Shelf c.args.shelf.now)

pub returns-in-Some-clause-ok : goal.returns-in-Some-clause-ok
returns-in-Some-clause-ok g c = λ t.
    let e : command_of (texts c.args.words.now) ≡ Some (command_view c.in-Some.command) = sym c.in_ok-read_command.ensures ∙ ap (option_map command_view) c.in-Some.is in
    subst (λ (z : Result Accepted Refusal). IfOk c.read_sources.result (λ inputs. z ≡ Ok (accepted_view inputs)))
    (sym (words-some (texts c.args.words.now) (g.S.Shelf.told c.args.shelf.now).holds (command_view c.in-Some.command) e)) (c.read_sources.ensures.ok (known-some (texts c.args.words.now) g.S.Shelf.tells (command_view c.in-Some.command) e t))

pub returns-in-Some-clause-err : goal.returns-in-Some-clause-err
returns-in-Some-clause-err g c = λ t.
    let e : command_of (texts c.args.words.now) ≡ Some (command_view c.in-Some.command) = sym c.in_ok-read_command.ensures ∙ ap (option_map command_view) c.in-Some.is in
    subst (λ (z : Result Accepted Refusal). IfErr c.read_sources.result (Explains z))
    (sym (words-some (texts c.args.words.now) (g.S.Shelf.told c.args.shelf.now).holds (command_view c.in-Some.command) e)) (c.read_sources.ensures.err (known-some (texts c.args.words.now) g.S.Shelf.tells (command_view c.in-Some.command) e t))

pub returns-in-Some-clause-reads : goal.returns-in-Some-clause-reads
returns-in-Some-clause-reads g c =
    let e : command_of (texts c.args.words.now) ≡ Some (command_view c.in-Some.command) = sym c.in_ok-read_command.ensures ∙ ap (option_map command_view) c.in-Some.is in
    let knows = IsKnown g.S.Shelf.tells (texts c.args.words.now) in
    subst (λ (names : List (List ℕ)). ReadsWhere knows g.S.Shelf c.args.shelf.now c.read_sources.new.shelf names (ending_of c.read_sources.result))
    (sym (opened-some (texts c.args.words.now) (command_view c.in-Some.command) e))
    (reads_knowing (IsTrue g.S.Shelf.tells) knows (known-some (texts c.args.words.now) g.S.Shelf.tells (command_view c.in-Some.command) e)
    g.S.Shelf c.args.shelf.now c.read_sources.new.shelf _ _ c.read_sources.ensures.reads)

pub returns-in-None-clause-usage : goal.returns-in-None-clause-usage
returns-in-None-clause-usage g c = λ _.
    let e : command_of (texts c.args.words.now) ≡ None = sym c.in_ok-read_command.ensures ∙ ap (option_map command_view) c.in-None.is in
    command-none (texts c.args.words.now) e

pub returns-in-Some-clause-usage : goal.returns-in-Some-clause-usage
returns-in-Some-clause-usage g c = usage-never c.read_sources.result _ c.read_sources.ensures.taken

pub returns-in_err-read_command-clause-reads : goal.returns-in_err-read_command-clause-reads
returns-in_err-read_command-clause-reads g c =
    let p = err_from_is_err_and c.from_residual.result c.from_residual.ensures.1 in
    rw (p.1, p.2) (reads_unbegun (IsKnown g.S.Shelf.tells (texts c.args.words.now)) g.S.Shelf c.args.shelf.now _)
