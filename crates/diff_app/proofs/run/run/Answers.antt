use Rattle.std.proofs.Common.{IsTrue, string_bytes, refl}
use Rattle.std.proofs.lemmas.Result.{err_from_is_err_and}
use Rattle.command_words.specs.CommandViews.{texts}
use Rattle.diff_app.specs.InputViews.{accepted_view}
use Rattle.switch_input.proofs.refusals.Reading.{reads_out}
use Rattle.diff_app.proofs.Told.{unread_leaves, unfound_leaves, found}
use Rattle.diff_app.proofs.run.run.Goals as goal

pub returns-in_err-inputs-clause-err : goal.returns-in_err-inputs-clause-err
returns-in_err-inputs-clause-err g c =
    let p = err_from_is_err_and c.from_residual.result c.from_residual.ensures.1 in
    let read = c.in_err-inputs.ensures in
    rw (p.1, p.2) (unread_leaves g.S.Shelf g.K.Sink (texts c.args.words.now) c.args.shelf.now c.read_inputs.new.shelf c.args.say.now c.args.say.now c.in_err-inputs.field-0.0 read.unsaid (record {
      verdict = read.err;
      reads = read.reads;
      no_file = read.in_use;
      unsaid = refl;
    }))

pub returns-in_err-told-clause-err : goal.returns-in_err-told-clause-err
returns-in_err-told-clause-err g c =
    let p = err_from_is_err_and c.from_residual-in_err-told.result c.from_residual-in_err-told.ensures.1 in
    let read = c.in_ok-inputs.ensures in
    rw (p.1, p.2) (unfound_leaves g.S.Shelf g.K.Sink (texts c.args.words.now) c.args.shelf.now c.read_inputs.new.shelf c.args.say.now c.args.say.now c.in_err-told.field-0.0
    (record {
      verdict = λ t. tt;
      reads = reads_out (IsTrue g.S.Shelf.tells) g.S.Shelf c.args.shelf.now c.read_inputs.new.shelf _ read.reads;
      no_file = read.in_use;
      unsaid = refl;
    })
    (λ is. record {
      run = λ t. record { accepted = accepted_view c.in_ok-inputs.inputs; is_verdict = read.ok t; unfinished = c.in_err-told.ensures.too_many is };
      reads = read.reads;
      no_file = read.in_use;
      unsaid = refl;
    }))

pub returns-in_err-print-clause-err : goal.returns-in_err-print-clause-err
returns-in_err-print-clause-err g c =
    let p = err_from_is_err_and c.from_residual-in_err-print.result c.from_residual-in_err-print.ensures.1 in
    let read = c.in_ok-inputs.ensures in
    rw (p.1, p.2) (record {
      run = λ t. record {
        accepted = accepted_view c.in_ok-inputs.inputs;
        is_verdict = read.ok t;
        text = string_bytes c.in_ok-told.told.text;
        status = c.in_ok-told.told.status;
        told = c.in_ok-told.ensures.ok;
        printed = c.in_err-print.ensures.err;
      };
      reads = read.reads;
      no_file = read.in_use;
      cause = c.in_err-print.ensures.cause;
    })

pub returns-clause-ok : goal.returns-clause-ok
returns-clause-ok g c =
    let read = c.in_ok-inputs.ensures in record {
      run = λ t. record {
        accepted = accepted_view c.in_ok-inputs.inputs;
        is_verdict = read.ok t;
        text = string_bytes c.in_ok-told.told.text;
        told = c.in_ok-told.ensures.ok;
        printed = c.in_ok-print.ensures.ok;
      };
      opened = read.reads.opened;
      unwritten = read.reads.only_read;
      no_file = read.in_use;
      counts = read.reads.counts;
      faults = c.in_ok-print.ensures.cause.ok;
    }

pub returns-clause-status : goal.returns-clause-status
returns-clause-status g c = found c.in_ok-told.ensures.ok.lines c.in_ok-told.told.status c.in_ok-told.ensures.ok.is_status
