use Rattle.std.proofs.Common.{map, ap, ◌∙◌}
use Rattle.std.proofs.lemmas.Result.{err_from_is_err_and}
use Rattle.edge_io.specs.Shelf.{Told}
use Rattle.spec_run.specs.Outputs.{port_file}
use Rattle.switch_output.proofs.Written.{one_more, port_at, cut_in_at}
use Rattle.switch_output.proofs.writing.write_port_files.Goals as goal

pub returns-in_err-write_one : goal.returns-in_err-write_one
returns-in_err-write_one g c =
    let p = err_from_is_err_and c.from_residual.result c.from_residual.ensures.1 in
    let file = port_file c.args.out.now g.C.Case.run c.args.source.now.finished.now in
    let here = port_at file c.as_slice-ports.result.now g.C.Case.run.ports c.files.port-index (c.as_slice-ports.ensures.list ∙ c.ports.ensures) c.files-test.true in
    let w = c.in_err-write_one.ensures in
    rw (p.1, p.2) (record {
      in_use = tt;
      ok = λ t. tt;
      err = λ t. cut_in_at (map file g.C.Case.run.ports) c.files.port-index _ _ _ _ _ here (c.files.invariant.done t) (w.err t) w.fault;
      named = w.named;
      since = rw (← c.files.invariant.counts) w.since;
      opened = λ t. w.opened t ∙ c.files.invariant.opened t;
      counts = tt;
      cause = rw (← c.files.invariant.counts) w.cause;
    })

pub files-preserved : goal.files-preserved
files-preserved g c =
    let file = port_file c.args.out.now g.C.Case.run c.args.source.now.finished.now in
    let here = port_at file c.as_slice-ports.result.now g.C.Case.run.ports c.files.port-index (c.as_slice-ports.ensures.list ∙ c.ports.ensures) c.files-test.true in
    let w = c.in_ok-write_one.ensures in record {
      in_use = w.in_use;
      done = λ t. one_more (map file g.C.Case.run.ports) c.files.port-index _ _ _ _ here (c.files.invariant.done t) (ap (λ (w : Told). w.done) (w.ok t));
      opened = λ t. w.opened t ∙ c.files.invariant.opened t;
      counts = w.counts ∙ c.files.invariant.counts;
    }
