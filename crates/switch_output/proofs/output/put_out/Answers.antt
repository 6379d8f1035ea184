use Rattle.std.proofs.Common.{refl}
use Rattle.std.proofs.lemmas.Result.{err_from_is_err_and}
use Rattle.switch_output.proofs.output.put_out.Goals as goal

pub returns-in_err-write_out-clause-told : goal.returns-in_err-write_out-clause-told
returns-in_err-write_out-clause-told g c =
    let p = err_from_is_err_and c.from_residual.result c.from_residual.ensures.1 in
    let w = c.in_err-write_out.ensures.files in
    rw (p.1, p.2) (record {
      ok = tt;
      err = record { cut = w.err; named = w.named; since = w.since; unsaid = refl; cause = w.cause };
      opened = w.opened;
    })

pub returns-in_err-say_summary-clause-told : goal.returns-in_err-say_summary-clause-told
returns-in_err-say_summary-clause-told g c =
    let p = err_from_is_err_and c.from_residual-in_err-say_summary.result c.from_residual-in_err-say_summary.ensures.1 in
    let w = c.in_ok-write_out.ensures.files in
    let s = c.in_err-say_summary.ensures in
    rw (p.1, p.2) (record {
      ok = tt;
      err = record { whole = record { in_use = w.in_use; done = w.ok; counts = w.counts }; printed = s.err; cause = s.cause };
      opened = w.opened;
    })

pub returns-clause-told : goal.returns-clause-told
returns-clause-told g c =
    let w = c.in_ok-write_out.ensures.files in
    let s = c.in_ok-say_summary.ensures in
    record {
      ok = record { whole = record { in_use = w.in_use; done = w.ok; counts = w.counts }; printed = s.ok; faults = s.cause.ok };
      err = tt;
      opened = w.opened;
    }
