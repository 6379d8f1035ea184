use Rattle.std.proofs.Common.{false, Err}
use Rattle.std.proofs.lemmas.Result.{err_from_is_err_and}
use Rattle.command_words.specs.CommandViews.{texts, input_view, command_view}
use Rattle.switch_input.specs.Known.{IsKnownInput, IsKnown}
use Rattle.switch_input.proofs.refusals.Reading.{reads_knowing}
use Rattle.switch_input.proofs.Verdicts.{command_explains, words_read, run_explains, accepts, names_for}
use Rattle.switch_input.proofs.Known.{known_input, usage_explained, usage_never, command_is}
use Rattle.switch_input.proofs.inputs.read_inputs.Goals as goal

-- ---- the words are refused

pub returns-in_err-command-clause-refused : goal.returns-in_err-command-clause-refused
returns-in_err-command-clause-refused g c = λ _.
    let p = err_from_is_err_and c.from_residual.result c.from_residual.ensures.1 in
    rw (p.1, p.2) (command_explains (texts c.args.words.now) (g.S.Shelf.told c.args.shelf.now).holds c.in_err-command.field-0.0 c.in_err-command.ensures.err)

pub returns-in_err-command-clause-reads : goal.returns-in_err-command-clause-reads
returns-in_err-command-clause-reads g c =
    let p = err_from_is_err_and c.from_residual.result c.from_residual.ensures.1 in
    rw (p.1, p.2) (words_read (texts c.args.words.now) (g.S.Shelf.told c.args.shelf.now).holds _ g.S.Shelf c.args.shelf.now c.in_err-command.field-0.0 c.in_err-command.ensures.err c.in_err-command.ensures.no_fault)

pub returns-in_err-command-clause-usage : goal.returns-in_err-command-clause-usage
returns-in_err-command-clause-usage g c =
    let p = err_from_is_err_and c.from_residual.result c.from_residual.ensures.1 in
    rw (p.1, p.2) (usage_explained (texts c.args.words.now) c.in_err-command.field-0.0 c.in_err-command.ensures.err)

-- ---- they are taken

pub returns-clause-command : goal.returns-clause-command
returns-clause-command g c =
    command_is (texts c.args.words.now) c.in_ok-command.command c.in_ok-command.ensures.ok c.read_run.result c.read_run.ensures.command

pub returns-clause-usage : goal.returns-clause-usage
returns-clause-usage g c = usage_never _ c.read_run.result c.read_run.ensures.taken

pub returns-clause-accepted : goal.returns-clause-accepted
returns-clause-accepted g c = λ t.
    let known = known_input g.S.Shelf.tells (texts c.args.words.now) (command_view c.in_ok-command.command) c.in_ok-command.ensures.ok t in
    accepts (texts c.args.words.now) (g.S.Shelf.told c.args.shelf.now).holds c.in_ok-command.command c.in_ok-command.ensures.ok c.read_run.result c.read_run.ensures.command (c.read_run.ensures.ok known)

pub returns-clause-refused : goal.returns-clause-refused
returns-clause-refused g c = λ t.
    let known = known_input g.S.Shelf.tells (texts c.args.words.now) (command_view c.in_ok-command.command) c.in_ok-command.ensures.ok t in
    run_explains (texts c.args.words.now) (g.S.Shelf.told c.args.shelf.now).holds c.in_ok-command.command c.in_ok-command.ensures.ok c.read_run.result (c.read_run.ensures.err known)

pub returns-clause-reads : goal.returns-clause-reads
returns-clause-reads g c =
    rw (names_for (texts c.args.words.now) (g.S.Shelf.told c.args.shelf.now).holds c.in_ok-command.command c.in_ok-command.ensures.ok)
    (reads_knowing (IsKnownInput g.S.Shelf.tells (input_view c.in_ok-command.command.input)) (IsKnown g.S.Shelf.tells (texts c.args.words.now))
    (known_input g.S.Shelf.tells (texts c.args.words.now) (command_view c.in_ok-command.command) c.in_ok-command.ensures.ok) g.S.Shelf c.args.shelf.now c.read_run.new.shelf _ _ c.read_run.ensures.reads)

pub returns-clause-no_fault : goal.returns-clause-no_fault
returns-clause-no_fault g c = λ t.
    c.read_run.ensures.no_fault (known_input false (texts c.args.words.now) (command_view c.in_ok-command.command) c.in_ok-command.ensures.ok t)

pub returns-clause-untouched : goal.returns-clause-untouched
returns-clause-untouched g c = λ t.
    c.read_run.ensures.untouched (known_input false (texts c.args.words.now) (command_view c.in_ok-command.command) c.in_ok-command.ensures.ok t)
