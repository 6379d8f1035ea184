use Rattle.std.proofs.Common.{ap, ◌∙◌, arith}
use Rattle.std.proofs.lemmas.Result.{err_from_is_err_and}
use Rattle.edge_io.specs.Shelf.{Told}
use Rattle.spec_run.specs.Mirrored.{mirror_file, mirror_files}
use Rattle.switch_output.proofs.Written.{one_more, mirror_at, all_mirrors, cut_in_at}
use Rattle.switch_output.proofs.writing.write_mirror_files.Goals as goal

pub returns-in_err-write_one : goal.returns-in_err-write_one
returns-in_err-write_one g c =
    let p = err_from_is_err_and c.from_residual.result c.from_residual.ensures.1 in
    let run = g.C.Case.run in
    let here = mirror_at (mirror_file c.args.out.now run c.args.source.now.finished.now) c.args.mirrors.now c.files.before c.index-mirrors-before.result c.files-test.true c.index-mirrors-before.is in
    let w = c.in_err-write_one.ensures in
    rw (p.1, p.2) (record {
      in_use = tt;
      ok = λ t. tt;
      err = λ t. cut_in_at (mirror_files c.args.out.now run c.args.source.now.finished.now c.args.mirrors.now) c.files.before _ _ _ _ _ here (c.files.invariant.done t) (w.err t) w.fault;
      named = w.named;
      since = rw (← c.files.invariant.counts) w.since;
      opened = λ t. w.opened t ∙ c.files.invariant.opened t;
      counts = tt;
      cause = rw (← c.files.invariant.counts) w.cause;
    })

pub files-preserved : goal.files-preserved
files-preserved g c =
    let run = g.C.Case.run in
    let here = mirror_at (mirror_file c.args.out.now run c.args.source.now.finished.now) c.args.mirrors.now c.files.before c.index-mirrors-before.result c.files-test.true c.index-mirrors-before.is in
    let w = c.in_ok-write_one.ensures in record {
      in_use = w.in_use;
      done = λ t. one_more (mirror_files c.args.out.now run c.args.source.now.finished.now c.args.mirrors.now) c.files.before _ _ _ _ here (c.files.invariant.done t) (ap (λ (w : Told). w.done) (w.ok t));
      opened = λ t. w.opened t ∙ c.files.invariant.opened t;
      counts = w.counts ∙ c.files.invariant.counts;
    }

pub returns : goal.returns
returns g c =
    let before = c.files.invariant in record {
      in_use = before.in_use;
      ok = λ t. all_mirrors (mirror_file c.args.out.now g.C.Case.run c.args.source.now.finished.now) c.args.mirrors.now c.files.before _ _ (omega arith) (before.done t);
      err = λ t. tt;
      named = λ t. tt;
      since = λ t. tt;
      opened = before.opened;
      counts = before.counts;
      cause = tt;
    }
