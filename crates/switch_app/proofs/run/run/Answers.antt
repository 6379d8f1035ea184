use Rattle.std.proofs.Common.{refl, ◌∙◌}
use Rattle.std.proofs.lemmas.Result.{err_from_is_err_and}
use Rattle.command_words.specs.CommandViews.{texts}
use Rattle.switch_input.specs.InputViews.{accepted_view}
use Rattle.switch_app.proofs.Leaving.{all_done, left, writes_none}
use Rattle.switch_app.proofs.run.run.Goals as goal

pub returns-in_err-inputs-clause-err : goal.returns-in_err-inputs-clause-err
returns-in_err-inputs-clause-err g c =
    let p = err_from_is_err_and c.from_residual.result c.from_residual.ensures.1 in
    let read = c.in_err-inputs.ensures in
    rw (p.1, p.2) (record {
      verdict = read.refused;
      usage = read.usage;
      reads = read.reads;
      no_file = read.in_use;
      unsaid = refl;
    })

pub returns-in_err-decide_and_tell-clause-err : goal.returns-in_err-decide_and_tell-clause-err
returns-in_err-decide_and_tell-clause-err g c =
    let p = err_from_is_err_and c.from_residual-in_err-decide_and_tell.result c.from_residual-in_err-decide_and_tell.ensures.1 in
    let read = c.in_ok-inputs.ensures in
    rw (p.1, p.2) (left g.S.Shelf g.K.Sink (texts c.args.words.now) c.args.shelf.now c.read_inputs.new.shelf c.decide_and_tell.new.shelf c.args.say.now c.decide_and_tell.new.say
    (accepted_view c.in_ok-inputs.inputs) read.accepted read.command read.reads c.in_err-decide_and_tell.ensures.opened
    (λ none. (c.in_err-decide_and_tell.ensures.untouched none).0) _ (λ none. (c.in_err-decide_and_tell.ensures.untouched none).1) c.in_err-decide_and_tell.ensures.err)

pub returns-clause-ok : goal.returns-clause-ok
returns-clause-ok g c =
    let read = c.in_ok-inputs.ensures in
    all_done g.S.Shelf g.K.Sink (texts c.args.words.now) c.args.shelf.now c.read_inputs.new.shelf c.decide_and_tell.new.shelf c.args.say.now c.decide_and_tell.new.say
    (accepted_view c.in_ok-inputs.inputs) read.accepted read.command read.reads c.in_ok-decide_and_tell.ensures.opened
    (λ none. (c.in_ok-decide_and_tell.ensures.untouched none).0) c.in_ok-decide_and_tell.ensures.ok

pub returns-in_err-decide_and_tell-clause-untouched : goal.returns-in_err-decide_and_tell-clause-untouched
returns-in_err-decide_and_tell-clause-untouched g c = λ need.
    let read = c.in_ok-inputs.ensures in
    let none = writes_none (texts c.args.words.now) (accepted_view c.in_ok-inputs.inputs) read.command need in
    (c.in_err-decide_and_tell.ensures.untouched none).0 ∙ read.untouched need

pub returns-clause-untouched : goal.returns-clause-untouched
returns-clause-untouched g c = λ need.
    let read = c.in_ok-inputs.ensures in
    let none = writes_none (texts c.args.words.now) (accepted_view c.in_ok-inputs.inputs) read.command need in
    (c.in_ok-decide_and_tell.ensures.untouched none).0 ∙ read.untouched need
