use Rattle.std.proofs.Common.{◌+◌, ◌∙◌, arith, rules}
use Rattle.std.proofs.lemmas.Result.{err_from_is_err_and}
use Rattle.edge_io.proofs.Prefixes.{wrote_twice}
use Rattle.edge_io.proofs.writing.write_all.Goals as goal

pub returns-in_err-at : goal.returns-in_err-at
returns-in_err-at g c = record {
  in_use = search rules;
  ok = search rules;
  err = λ t.
      let p = err_from_is_err_and c.from_residual.result c.from_residual.ensures.1 in
      let w = (c.in_err-at.ensures.told t).err in
      rw p.1 (
        c.loop-at.at + w.0,
        wrote_twice _ _ _ c.args.bytes.now c.loop-at.at w.0 (c.loop-at.invariant.told t) w.1,
      );
  since = λ t. c.in_err-at.ensures.since t ∙ c.loop-at.invariant.since t;
  cause = search rules;
}

pub loop-at-preserved : goal.loop-at-preserved
loop-at-preserved g c = record {
  within = omega (arith, c.in_ok-at.ensures.bound);
  in_use = c.in_ok-at.ensures.in_use;
  told = λ t. wrote_twice _ _ _ c.args.bytes.now c.loop-at.at c.in_ok-at.field-0
      (c.loop-at.invariant.told t) (c.in_ok-at.ensures.told t).ok;
  since = λ t. c.in_ok-at.ensures.since t ∙ c.loop-at.invariant.since t;
  counts = c.in_ok-at.ensures.cause.ok ∙ c.loop-at.invariant.counts;
}
