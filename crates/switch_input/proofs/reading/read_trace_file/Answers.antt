use Rattle.std.proofs.Common.{[], ◌∷◌, IsTrue, Err, arith, inl, inr}
use Rattle.std.proofs.lemmas.Result.{err_from_is_err_and}
use Rattle.switch_input.proofs.refusals.Reading.{reads_still}
use Rattle.switch_input.proofs.Stages.{trace_too_long, trace_read, trace_refused, too_long_explains, said_explains}
use Rattle.switch_input.proofs.reading.read_trace_file.Goals as goal

pub returns-in_err-bytes-clause-err : goal.returns-in_err-bytes-clause-err
returns-in_err-bytes-clause-err g c = λ t.
    let p = err_from_is_err_and c.from_residual.result c.from_residual.ensures.1 in
    let left = c.in_err-bytes.ensures in
    rw (p.1, p.2) (too_long_explains _ _ _ c.in_err-bytes.field-0.0 (trace_too_long (g.S.Shelf.told c.args.shelf.now).holds c.args.bytes_left c.args.frames_left c.args.name.now) left.too_long (left.has_more t))

pub returns-in-Ok-clause-ok : goal.returns-in-Ok-clause-ok
returns-in-Ok-clause-ok g c = λ t.
    trace_read (g.S.Shelf.told c.args.shelf.now).holds c.args.bytes_left c.args.frames_left c.args.name.now _ c.len-size.result _ (c.in_ok-bytes.ensures.bytes t) (omega (arith, c.len-size.ensures)) (omega (arith, c.len-size.ensures, c.in_ok-bytes.ensures.few)) c.in-Ok.ensures.ok

pub returns-in-Err-clause-err : goal.returns-in-Err-clause-err
returns-in-Err-clause-err g c = λ t.
    elim c.in-Err.ensures.cause [
      | inl none ↦ rw (c.refused.ensures.no_memory none) tt
      | inr faulty ↦
          said_explains _ _ c.refused.result
          (trace_refused (g.S.Shelf.told c.args.shelf.now).holds c.args.bytes_left c.args.frames_left c.args.name.now _ c.in-Err.fault (c.in_ok-bytes.ensures.bytes t) (omega (arith, c.in_ok-bytes.ensures.few)) faulty)
          c.refused.ensures.input
    ]

-- ---- what is read

pub returns-in_err-bytes-clause-reads : goal.returns-in_err-bytes-clause-reads
returns-in_err-bytes-clause-reads g c =
    let p = err_from_is_err_and c.from_residual.result c.from_residual.ensures.1 in
    rw (p.1, p.2) c.in_err-bytes.ensures.reads

pub returns-in-Ok-clause-reads : goal.returns-in-Ok-clause-reads
returns-in-Ok-clause-reads g c = c.in_ok-bytes.ensures.reads

pub returns-in-Err-clause-reads : goal.returns-in-Err-clause-reads
returns-in-Err-clause-reads g c =
    reads_still (IsTrue g.S.Shelf.tells) g.S.Shelf c.args.shelf.now c.read_file.new.shelf (c.args.name.now ∷ []) c.in_ok-bytes.ensures.reads
    c.refused.result c.refused.ensures.no_fault
