use Rattle.std.proofs.Common.{◌+◌, ◌∙◌, arith}
use Rattle.std.proofs.lemmas.Result.{err_from_is_err_and}
use Rattle.edge_io.proofs.Prefixes.{said_twice}
use Rattle.edge_io.proofs.writing.say_all.Goals as goal

pub returns-in_err-at-clause-err : goal.returns-in_err-at-clause-err
returns-in_err-at-clause-err g c = λ t.
    let p = err_from_is_err_and c.from_residual.result c.from_residual.ensures.1 in
    let w = (c.in_err-at.ensures.told t).err in
    rw p.1 (
      c.loop-at.at + w.0,
      said_twice _ _ _ c.args.bytes.now c.loop-at.at w.0 (c.loop-at.invariant.told t) w.1,
    )

pub loop-at-preserved : goal.loop-at-preserved
loop-at-preserved g c = record {
  within = omega (arith, c.in_ok-at.ensures.bound);
  told = λ t. said_twice _ _ _ c.args.bytes.now c.loop-at.at c.in_ok-at.field-0
      (c.loop-at.invariant.told t) (c.in_ok-at.ensures.told t).ok;
  faults = c.in_ok-at.ensures.cause.ok ∙ c.loop-at.invariant.faults;
}
