use Rattle.std.proofs.Common.{refl}
use Rattle.std.proofs.lemmas.Result.{err_from_is_err_and}
use Rattle.command_words.specs.CommandViews.{texts}
use Rattle.trace_app.specs.InputViews.{accepted_view}
use Rattle.trace_app.proofs.Printed.{unread_leaves}
use Rattle.trace_app.proofs.run.run.Goals as goal

pub returns-in_err-inputs-clause-err : goal.returns-in_err-inputs-clause-err
returns-in_err-inputs-clause-err g c =
    let p = err_from_is_err_and c.from_residual.result c.from_residual.ensures.1 in
    let read = c.in_err-inputs.ensures in
    rw (p.1, p.2) (unread_leaves g.S.Shelf g.K.Sink (texts c.args.words.now) c.args.shelf.now c.read_inputs.new.shelf c.args.say.now c.args.say.now c.in_err-inputs.field-0.0 read.unsaid (record {
      verdict = read.err;
      usage = read.usage;
      reads = read.reads;
      no_file = read.in_use;
      unsaid = refl;
    }))

pub returns-in_err-trace_and_print-clause-err : goal.returns-in_err-trace_and_print-clause-err
returns-in_err-trace_and_print-clause-err g c =
    let p = err_from_is_err_and c.from_residual-in_err-trace_and_print.result c.from_residual-in_err-trace_and_print.ensures.1 in
    let read = c.in_ok-inputs.ensures in
    rw (p.1, p.2) (record {
      run = λ t. record { accepted = accepted_view c.in_ok-inputs.inputs; is_verdict = read.ok t; printed = c.in_err-trace_and_print.ensures.err };
      reads = read.reads;
      no_file = read.in_use;
      cause = c.in_err-trace_and_print.ensures.cause;
    })

pub returns-clause-ok : goal.returns-clause-ok
returns-clause-ok g c =
    let read = c.in_ok-inputs.ensures in record {
      run = λ t. record { accepted = accepted_view c.in_ok-inputs.inputs; is_verdict = read.ok t; printed = c.in_ok-trace_and_print.ensures.ok };
      opened = read.reads.opened;
      unwritten = read.reads.only_read;
      no_file = read.in_use;
      counts = read.reads.counts;
      faults = c.in_ok-trace_and_print.ensures.cause.ok;
    }
