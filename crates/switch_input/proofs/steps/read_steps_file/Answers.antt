use Rattle.std.proofs.Common.{[], ◌∷◌, IsTrue}
use Rattle.std.proofs.lemmas.Result.{err_from_is_err_and}
use Rattle.switch_input.proofs.refusals.Reading.{reads_ending}
use Rattle.switch_input.proofs.Stages.{steps_too_long, steps_of_bytes, too_long_explains}
use Rattle.switch_input.proofs.steps.read_steps_file.Goals as goal

pub returns-in_err-bytes-clause-err : goal.returns-in_err-bytes-clause-err
returns-in_err-bytes-clause-err g c = λ t.
    let p = err_from_is_err_and c.from_residual.result c.from_residual.ensures.1 in
    let left = c.in_err-bytes.ensures in
    rw (p.1, p.2) (too_long_explains _ _ _ c.in_err-bytes.field-0.0 (steps_too_long (g.S.Shelf.told c.args.shelf.now).holds c.args.ports.now c.args.name.now) left.too_long (left.has_more t))

pub returns-clause-ok : goal.returns-clause-ok
returns-clause-ok g c = λ t.
    rw (steps_of_bytes (g.S.Shelf.told c.args.shelf.now).holds c.args.ports.now c.args.name.now c.in_ok-bytes.bytes.items (c.in_ok-bytes.ensures.bytes t)) (rw c.deref.ensures.value at c.steps_of.ensures.ok)

pub returns-clause-err : goal.returns-clause-err
returns-clause-err g c = λ t.
    rw (steps_of_bytes (g.S.Shelf.told c.args.shelf.now).holds c.args.ports.now c.args.name.now c.in_ok-bytes.bytes.items (c.in_ok-bytes.ensures.bytes t)) (rw c.deref.ensures.value at c.steps_of.ensures.err)

-- ---- what is read

pub returns-in_err-bytes-clause-reads : goal.returns-in_err-bytes-clause-reads
returns-in_err-bytes-clause-reads g c =
    let p = err_from_is_err_and c.from_residual.result c.from_residual.ensures.1 in
    rw (p.1, p.2) c.in_err-bytes.ensures.reads

pub returns-clause-reads : goal.returns-clause-reads
returns-clause-reads g c =
    reads_ending (IsTrue g.S.Shelf.tells) g.S.Shelf c.args.shelf.now c.read_file.new.shelf (c.args.name.now ∷ []) c.in_ok-bytes.ensures.reads
    c.steps_of.result c.steps_of.ensures.no_fault
