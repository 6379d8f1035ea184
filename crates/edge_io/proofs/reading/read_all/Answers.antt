use Rattle.std.proofs.Common.{refl, arith}
use Rattle.edge_io.specs.declared.outside.Failed.TheVariants as failed
use Rattle.edge_io.proofs.Refusals as refusals
use Rattle.edge_io.proofs.Whole as whole
use Rattle.edge_io.proofs.reading.read_all.Goals as goal

pub returns-in_err-piece-clause-bound : goal.returns-in_err-piece-clause-bound
returns-in_err-piece-clause-bound g c = refusals.nothing_read c.from_residual.result c.from_residual.ensures.1 _

pub returns-in_err-piece-clause-bytes : goal.returns-in_err-piece-clause-bytes
returns-in_err-piece-clause-bytes g c = λ t. refusals.nothing_read c.from_residual.result c.from_residual.ensures.1 _

pub returns-in_err-piece-clause-over : goal.returns-in_err-piece-clause-over
returns-in_err-piece-clause-over g c = λ t over.
    absurd (refusals.not_over _ failed.OutOfMemory c.from_residual.ensures.1 over)

pub returns-in_err-piece-clause-within : goal.returns-in_err-piece-clause-within
returns-in_err-piece-clause-within g c = λ t short.
    refusals.not_over _ failed.OutOfMemory c.from_residual.ensures.1

pub returns-in_err-piece-clause-too_long : goal.returns-in_err-piece-clause-too_long
returns-in_err-piece-clause-too_long g c = λ t long. refusals.not_ok c.from_residual.result c.from_residual.ensures.1

pub returns-in_err-piece-clause-only_read : goal.returns-in_err-piece-clause-only_read
returns-in_err-piece-clause-only_read g c = λ t. refl

pub returns-in_err-piece-clause-named : goal.returns-in_err-piece-clause-named
returns-in_err-piece-clause-named g c = λ t. refusals.nothing_named c.from_residual.result c.from_residual.ensures.1 _ _

pub returns-in_err-piece-clause-since : goal.returns-in_err-piece-clause-since
returns-in_err-piece-clause-since g c = λ t fault. refusals.nothing_noted c.from_residual.result c.from_residual.ensures.1 fault

pub returns-in_err-piece-clause-cause : goal.returns-in_err-piece-clause-cause
returns-in_err-piece-clause-cause g c = refusals.nothing_counted c.from_residual.result c.from_residual.ensures.1 _

pub returns-in_err-open_file-clause-over : goal.returns-in_err-open_file-clause-over
returns-in_err-open_file-clause-over g c = λ t over.
    absurd (refusals.not_over _ c.in_err-open_file.field-0.0 c.from_residual-in_err-open_file.ensures.1 over)

pub returns-in_err-open_file-clause-within : goal.returns-in_err-open_file-clause-within
returns-in_err-open_file-clause-within g c = λ t short.
    refusals.not_over _ c.in_err-open_file.field-0.0 c.from_residual-in_err-open_file.ensures.1

pub returns-in_err-open_file-clause-only_read : goal.returns-in_err-open_file-clause-only_read
returns-in_err-open_file-clause-only_read g c = λ t.
    refusals.only_read _ _ c.args.name.now c.in_err-open_file.field-0.0 (c.in_err-open_file.ensures.told t)

pub returns-in_err-open_file-clause-named : goal.returns-in_err-open_file-clause-named
returns-in_err-open_file-clause-named g c = λ t.
    refusals.names _ _ c.args.name.now _ c.in_err-open_file.field-0.0 c.from_residual-in_err-open_file.ensures.1
    (c.in_err-open_file.ensures.told t)

pub returns-in_err-open_file-clause-since : goal.returns-in_err-open_file-clause-since
returns-in_err-open_file-clause-since g c = λ t.
    refusals.noted _ _ _ _ c.in_err-open_file.field-0.0 c.from_residual-in_err-open_file.ensures.1
    (c.in_err-open_file.ensures.since t)

pub returns-in_err-open_file-clause-cause : goal.returns-in_err-open_file-clause-cause
returns-in_err-open_file-clause-cause g c =
    refusals.cause _ _ _ c.in_err-open_file.field-0.0 c.from_residual-in_err-open_file.ensures.1
    c.in_err-open_file.ensures.cause

pub returns-clause-bytes : goal.returns-clause-bytes
returns-clause-bytes g c = λ t.
    whole.bytes _ _ c.read_opened.result (c.in_ok-open_file.ensures.told t).found (c.read_opened.ensures.bytes t)

pub returns-clause-over : goal.returns-clause-over
returns-clause-over g c = λ t over.
    rw (c.in_ok-open_file.ensures.told t).found (c.read_opened.ensures.over t over)

pub returns-clause-too_long : goal.returns-clause-too_long
returns-clause-too_long g c = λ t long.
    let more = rw (c.in_ok-open_file.ensures.told t).found at long in
    whole.not_ok _ c.args.max c.read_opened.result (c.read_opened.ensures.bytes t) c.read_opened.ensures.bound more

pub returns-clause-told : goal.returns-clause-told
returns-clause-told g c = λ t.
    whole.told (g.S.Shelf.told c.args.shelf.now) (g.S.Shelf.told c.open_file.new.self)
    (g.S.Shelf.told c.read_opened.new.shelf) c.args.name.now c.read_opened.result
    (c.in_ok-open_file.ensures.told t).ok (c.read_opened.ensures.told t) (c.read_opened.ensures.left t)

pub returns-clause-named : goal.returns-clause-named
returns-clause-named g c = λ t.
    whole.names (g.S.Shelf.told c.args.shelf.now) (g.S.Shelf.told c.open_file.new.self)
    (g.S.Shelf.told c.read_opened.new.shelf) c.args.name.now c.read_opened.result
    (c.in_ok-open_file.ensures.told t).ok (c.read_opened.ensures.told t)

pub returns-clause-only_read : goal.returns-clause-only_read
returns-clause-only_read g c = λ t.
    whole.only_read (g.S.Shelf.told c.args.shelf.now) (g.S.Shelf.told c.open_file.new.self)
    (g.S.Shelf.told c.read_opened.new.shelf) c.args.name.now c.read_opened.result
    (c.in_ok-open_file.ensures.told t).ok (c.read_opened.ensures.told t)

pub read_opened-requires-clause-room : goal.read_opened-requires-clause-room
read_opened-requires-clause-room g c = rw c.deref_mut.ensures.len c.in_ok-piece.ensures

pub open_file-requires : goal.open_file-requires
open_file-requires g c = c.requires

pub read_opened-requires-clause-in_use : goal.read_opened-requires-clause-in_use
read_opened-requires-clause-in_use g c = c.in_ok-open_file.ensures.opened

pub returns-clause-in_use : goal.returns-clause-in_use
returns-clause-in_use g c = c.read_opened.ensures.in_use

pub returns-clause-bound : goal.returns-clause-bound
returns-clause-bound g c = c.read_opened.ensures.bound

pub returns-clause-within : goal.returns-clause-within
returns-clause-within g c = λ t short over.
    let few = rw (c.in_ok-open_file.ensures.told t).found at short in
    absurd (omega (arith, few, c.read_opened.ensures.over t over))
