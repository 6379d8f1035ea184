use Rattle.std.proofs.Common.{IsTrue, length, sym, ap, ◌∙◌}
use Rattle.std.proofs.lemmas.Result.{err_from_is_err_and}
use Rattle.spec_run.specs.Verdict.{Sources, ports_said}
use Rattle.edit_script.specs.ScriptViews.{script_view}
use Rattle.switch_input.specs.SourceViews.{sources_view}
use Rattle.switch_input.proofs.Lists.{count_said}
use Rattle.switch_input.proofs.refusals.Reading.{only_read-trans, reads_unbegun, reads_after}
use Rattle.switch_input.proofs.Walk.{holds_kept}
use Rattle.switch_input.proofs.Verdicts.{script_explains, edits_opened, steps_explain, steps_opened, mirrors_explain, mirrors_opened, traces_explain, traces_until, gives_run_of, all_opened}
use Rattle.switch_input.proofs.inputs.read_sources.Goals as goal

-- ---- memory for the ports

pub returns-in_err-ports-clause-reads : goal.returns-in_err-ports-clause-reads
returns-in_err-ports-clause-reads g c =
    let p = err_from_is_err_and c.from_residual.result c.from_residual.ensures.1 in
    rw (p.1, p.2) (reads_unbegun (IsTrue g.S.Shelf.tells) g.S.Shelf c.args.shelf.now _)

-- ---- the edits

pub returns-in_err-edits-clause-err : goal.returns-in_err-edits-clause-err
returns-in_err-edits-clause-err g c = λ t.
    let p = err_from_is_err_and c.from_residual-in_err-edits.result c.from_residual-in_err-edits.ensures.1 in
    rw (p.1, p.2) (rw c.sources_of-sources.ensures.sources at (script_explains (g.S.Shelf.told c.args.shelf.now).holds c.args.command.flow_limit (sources_view c.sources_of-sources.result) c.in_err-edits.field-0.0 (c.in_err-edits.ensures.err t)))

pub returns-in_err-edits-clause-reads : goal.returns-in_err-edits-clause-reads
returns-in_err-edits-clause-reads g c =
    let p = err_from_is_err_and c.from_residual-in_err-edits.result c.from_residual-in_err-edits.ensures.1 in
    let read = c.in_err-edits.ensures.reads in
    rw (p.1, p.2) (record {
      counts = read.counts;
      since = read.since;
      named = read.named;
      only_read = read.only_read;
      opened = λ t.
          rw c.sources_of-sources.ensures.sources at (edits_opened (g.S.Shelf.told c.args.shelf.now).holds c.args.command.flow_limit (sources_view c.sources_of-sources.result)
          (g.S.Shelf.told c.args.shelf.now) (g.S.Shelf.told c.read_edits.new.shelf) c.in_err-edits.field-0.0 (c.in_err-edits.ensures.err t) (c.in_err-edits.ensures.reads.opened t));
    })

-- ---- the steps

pub returns-in_err-steps-clause-err : goal.returns-in_err-steps-clause-err
returns-in_err-steps-clause-err g c = λ t.
    let p = err_from_is_err_and c.from_residual-in_err-steps.result c.from_residual-in_err-steps.ensures.1 in
    let same = holds_kept (g.S.Shelf.told c.args.shelf.now) (g.S.Shelf.told c.read_edits.new.shelf) (c.in_ok-edits.ensures.reads.only_read t) in
    rw (p.1, p.2) (rw c.sources_of-sources.ensures.sources at (steps_explain (g.S.Shelf.told c.args.shelf.now).holds c.args.command.flow_limit (sources_view c.sources_of-sources.result) (script_view c.in_ok-edits.edits.script) (c.in_ok-edits.ensures.ok t)
    c.in_err-steps.field-0.0 (rw (c.as_slice-numbers.ensures.list, c.in_ok-ports.ensures, same) at c.in_err-steps.ensures.err t)))

pub returns-in_err-steps-clause-reads : goal.returns-in_err-steps-clause-reads
returns-in_err-steps-clause-reads g c =
    let p = err_from_is_err_and c.from_residual-in_err-steps.result c.from_residual-in_err-steps.ensures.1 in
    rw (p.1, p.2) (reads_after (IsTrue g.S.Shelf.tells) g.S.Shelf c.args.shelf.now c.read_edits.new.shelf c.read_steps.new.shelf c.in_ok-edits.ensures.reads.counts
    (λ t. c.in_ok-edits.ensures.reads.only_read t)
    _ _ _ c.in_err-steps.ensures.reads
    (λ t.
    let same = holds_kept (g.S.Shelf.told c.args.shelf.now) (g.S.Shelf.told c.read_edits.new.shelf) (c.in_ok-edits.ensures.reads.only_read t) in
    rw c.sources_of-sources.ensures.sources at (steps_opened (g.S.Shelf.told c.args.shelf.now).holds c.args.command.flow_limit (sources_view c.sources_of-sources.result) (script_view c.in_ok-edits.edits.script) (c.in_ok-edits.ensures.ok t)
    (g.S.Shelf.told c.args.shelf.now) (g.S.Shelf.told c.read_edits.new.shelf) (c.in_ok-edits.ensures.reads.opened t) (g.S.Shelf.told c.read_steps.new.shelf)
    c.in_err-steps.field-0.0 (rw (c.as_slice-numbers.ensures.list, c.in_ok-ports.ensures, same) at c.in_err-steps.ensures.err t) (c.in_err-steps.ensures.reads.opened t))))

-- ---- the mirrors

pub returns-in_err-mirrors-clause-err : goal.returns-in_err-mirrors-clause-err
returns-in_err-mirrors-clause-err g c = λ t.
    let p = err_from_is_err_and c.from_residual-in_err-mirrors.result c.from_residual-in_err-mirrors.ensures.1 in
    let same = holds_kept (g.S.Shelf.told c.args.shelf.now) (g.S.Shelf.told c.read_edits.new.shelf) (c.in_ok-edits.ensures.reads.only_read t) in
    let later = holds_kept (g.S.Shelf.told c.read_edits.new.shelf) (g.S.Shelf.told c.read_steps.new.shelf) (c.in_ok-steps.ensures.reads.only_read t) in
    rw (p.1, p.2) (rw c.sources_of-sources.ensures.sources at (mirrors_explain (g.S.Shelf.told c.args.shelf.now).holds c.args.command.flow_limit (sources_view c.sources_of-sources.result) (script_view c.in_ok-edits.edits.script) (c.in_ok-edits.ensures.ok t)
    c.in_ok-steps.steps.items (rw (c.as_slice-numbers.ensures.list, c.in_ok-ports.ensures, same) at c.in_ok-steps.ensures.ok t)
    c.in_err-mirrors.field-0.0 (rw (c.as_slice-numbers.ensures.list, c.in_ok-ports.ensures, later, same) at c.in_err-mirrors.ensures.err t)))

pub returns-in_err-mirrors-clause-reads : goal.returns-in_err-mirrors-clause-reads
returns-in_err-mirrors-clause-reads g c =
    let p = err_from_is_err_and c.from_residual-in_err-mirrors.result c.from_residual-in_err-mirrors.ensures.1 in
    rw (p.1, p.2) (reads_after (IsTrue g.S.Shelf.tells) g.S.Shelf c.args.shelf.now c.read_steps.new.shelf c.read_mirrors.new.shelf (c.in_ok-steps.ensures.reads.counts ∙ c.in_ok-edits.ensures.reads.counts)
    (λ t. only_read-trans (g.S.Shelf.told c.args.shelf.now) (g.S.Shelf.told c.read_edits.new.shelf) (g.S.Shelf.told c.read_steps.new.shelf) (c.in_ok-edits.ensures.reads.only_read t) (c.in_ok-steps.ensures.reads.only_read t))
    _ _ _ c.in_err-mirrors.ensures.reads
    (λ t.
    let same = holds_kept (g.S.Shelf.told c.args.shelf.now) (g.S.Shelf.told c.read_edits.new.shelf) (c.in_ok-edits.ensures.reads.only_read t) in
    let later = holds_kept (g.S.Shelf.told c.read_edits.new.shelf) (g.S.Shelf.told c.read_steps.new.shelf) (c.in_ok-steps.ensures.reads.only_read t) in
    rw c.sources_of-sources.ensures.sources at (mirrors_opened (g.S.Shelf.told c.args.shelf.now).holds c.args.command.flow_limit (sources_view c.sources_of-sources.result) (script_view c.in_ok-edits.edits.script) (c.in_ok-edits.ensures.ok t)
    c.in_ok-steps.steps.items (rw (c.as_slice-numbers.ensures.list, c.in_ok-ports.ensures, same) at c.in_ok-steps.ensures.ok t)
    (g.S.Shelf.told c.args.shelf.now) (g.S.Shelf.told c.read_edits.new.shelf) (g.S.Shelf.told c.read_steps.new.shelf) (c.in_ok-edits.ensures.reads.opened t) (c.in_ok-steps.ensures.reads.opened t) (g.S.Shelf.told c.read_mirrors.new.shelf)
    c.in_err-mirrors.field-0.0 (rw (c.as_slice-numbers.ensures.list, c.in_ok-ports.ensures, later, same) at c.in_err-mirrors.ensures.err t) (c.in_err-mirrors.ensures.reads.opened t))))

-- ---- the traces

pub returns-in_err-traces-clause-err : goal.returns-in_err-traces-clause-err
returns-in_err-traces-clause-err g c = λ t.
    let p = err_from_is_err_and c.from_residual-in_err-traces.result c.from_residual-in_err-traces.ensures.1 in
    let same = holds_kept (g.S.Shelf.told c.args.shelf.now) (g.S.Shelf.told c.read_edits.new.shelf) (c.in_ok-edits.ensures.reads.only_read t) in
    let later = holds_kept (g.S.Shelf.told c.read_edits.new.shelf) (g.S.Shelf.told c.read_steps.new.shelf) (c.in_ok-steps.ensures.reads.only_read t) in
    let last = holds_kept (g.S.Shelf.told c.read_steps.new.shelf) (g.S.Shelf.told c.read_mirrors.new.shelf) (c.in_ok-mirrors.ensures.reads.only_read t) in
    rw (p.1, p.2) (rw c.sources_of-sources.ensures.sources at (traces_explain (g.S.Shelf.told c.args.shelf.now).holds c.args.command.flow_limit (sources_view c.sources_of-sources.result) (script_view c.in_ok-edits.edits.script) (c.in_ok-edits.ensures.ok t)
    c.in_ok-steps.steps.items (rw (c.as_slice-numbers.ensures.list, c.in_ok-ports.ensures, same) at c.in_ok-steps.ensures.ok t)
    c.in_ok-mirrors.mirrors.items (rw (c.as_slice-numbers.ensures.list, c.in_ok-ports.ensures, later, same) at c.in_ok-mirrors.ensures.ok t)
    c.in_err-traces.field-0.0 (rw (last, later, same) at c.in_err-traces.ensures.err t)))

pub returns-in_err-traces-clause-reads : goal.returns-in_err-traces-clause-reads
returns-in_err-traces-clause-reads g c =
    let p = err_from_is_err_and c.from_residual-in_err-traces.result c.from_residual-in_err-traces.ensures.1 in
    rw (p.1, p.2) (reads_after (IsTrue g.S.Shelf.tells) g.S.Shelf c.args.shelf.now c.read_mirrors.new.shelf c.read_traces.new.shelf (c.in_ok-mirrors.ensures.reads.counts ∙ (c.in_ok-steps.ensures.reads.counts ∙ c.in_ok-edits.ensures.reads.counts))
    (λ t. only_read-trans (g.S.Shelf.told c.args.shelf.now) (g.S.Shelf.told c.read_steps.new.shelf) (g.S.Shelf.told c.read_mirrors.new.shelf) (only_read-trans (g.S.Shelf.told c.args.shelf.now) (g.S.Shelf.told c.read_edits.new.shelf) (g.S.Shelf.told c.read_steps.new.shelf) (c.in_ok-edits.ensures.reads.only_read t) (c.in_ok-steps.ensures.reads.only_read t)) (c.in_ok-mirrors.ensures.reads.only_read t))
    _ _ _ c.in_err-traces.ensures.reads
    (λ t.
    let same = holds_kept (g.S.Shelf.told c.args.shelf.now) (g.S.Shelf.told c.read_edits.new.shelf) (c.in_ok-edits.ensures.reads.only_read t) in
    let later = holds_kept (g.S.Shelf.told c.read_edits.new.shelf) (g.S.Shelf.told c.read_steps.new.shelf) (c.in_ok-steps.ensures.reads.only_read t) in
    let last = holds_kept (g.S.Shelf.told c.read_steps.new.shelf) (g.S.Shelf.told c.read_mirrors.new.shelf) (c.in_ok-mirrors.ensures.reads.only_read t) in
    rw c.sources_of-sources.ensures.sources at (traces_until (g.S.Shelf.told c.args.shelf.now).holds c.args.command.flow_limit (sources_view c.sources_of-sources.result) (script_view c.in_ok-edits.edits.script) (c.in_ok-edits.ensures.ok t)
    c.in_ok-steps.steps.items (rw (c.as_slice-numbers.ensures.list, c.in_ok-ports.ensures, same) at c.in_ok-steps.ensures.ok t)
    c.in_ok-mirrors.mirrors.items (rw (c.as_slice-numbers.ensures.list, c.in_ok-ports.ensures, later, same) at c.in_ok-mirrors.ensures.ok t)
    (g.S.Shelf.told c.args.shelf.now) (g.S.Shelf.told c.read_edits.new.shelf) (g.S.Shelf.told c.read_steps.new.shelf) (g.S.Shelf.told c.read_mirrors.new.shelf) (c.in_ok-edits.ensures.reads.opened t) (c.in_ok-steps.ensures.reads.opened t) (c.in_ok-mirrors.ensures.reads.opened t)
    (g.S.Shelf.told c.read_traces.new.shelf) c.in_err-traces.field-0.0 (rw (last, later, same) at c.in_err-traces.ensures.reads.opened t))))

-- ---- all is read

pub returns-clause-ok : goal.returns-clause-ok
returns-clause-ok g c = λ t.
    let same = holds_kept (g.S.Shelf.told c.args.shelf.now) (g.S.Shelf.told c.read_edits.new.shelf) (c.in_ok-edits.ensures.reads.only_read t) in
    let later = holds_kept (g.S.Shelf.told c.read_edits.new.shelf) (g.S.Shelf.told c.read_steps.new.shelf) (c.in_ok-steps.ensures.reads.only_read t) in
    let last = holds_kept (g.S.Shelf.told c.read_steps.new.shelf) (g.S.Shelf.told c.read_mirrors.new.shelf) (c.in_ok-mirrors.ensures.reads.only_read t) in
    gives_run_of (g.S.Shelf.told c.args.shelf.now).holds c.args.command.flow_limit (sources_view c.sources_of-sources.result) (script_view c.in_ok-edits.edits.script) (c.in_ok-edits.ensures.ok t)
    c.in_ok-steps.steps.items (rw (c.as_slice-numbers.ensures.list, c.in_ok-ports.ensures, same) at c.in_ok-steps.ensures.ok t)
    c.in_ok-mirrors.mirrors.items (rw (c.as_slice-numbers.ensures.list, c.in_ok-ports.ensures, later, same) at c.in_ok-mirrors.ensures.ok t)
    _ c.sources_of-sources.ensures.sources c.in_ok-traces.traces.items (rw (last, later, same) at c.in_ok-traces.ensures.ok t)

pub returns-clause-within : goal.returns-clause-within
returns-clause-within g c =
    let script = c.in_ok-edits.ensures in record {
      workers = c.requires.workers;
      ports = c.in_ok-ports.ensures ∙ ap (λ (s : Sources). ports_said s.ports) c.sources_of-sources.ensures.sources;
      trace_each = c.in_ok-traces.ensures.one_each ∙ sym (ap length c.in_ok-ports.ensures ∙ count_said c.sources_of-sources.result.ports.now);
      few_frames = c.in_ok-traces.ensures.few_frames;
      sound = script.sound;
      few_edits = script.few_edits;
      few_syncs = script.few_syncs;
      in_order = script.in_order;
      bundles = script.bundles;
      few_steps = c.in_ok-steps.ensures.few_steps;
      few_mirrors = c.in_ok-mirrors.ensures.few_mirrors;
      rules = script.rules;
    }

pub returns-clause-reads : goal.returns-clause-reads
returns-clause-reads g c =
    reads_after (IsTrue g.S.Shelf.tells) g.S.Shelf c.args.shelf.now c.read_mirrors.new.shelf c.read_traces.new.shelf (c.in_ok-mirrors.ensures.reads.counts ∙ (c.in_ok-steps.ensures.reads.counts ∙ c.in_ok-edits.ensures.reads.counts))
    (λ t. only_read-trans (g.S.Shelf.told c.args.shelf.now) (g.S.Shelf.told c.read_steps.new.shelf) (g.S.Shelf.told c.read_mirrors.new.shelf) (only_read-trans (g.S.Shelf.told c.args.shelf.now) (g.S.Shelf.told c.read_edits.new.shelf) (g.S.Shelf.told c.read_steps.new.shelf) (c.in_ok-edits.ensures.reads.only_read t) (c.in_ok-steps.ensures.reads.only_read t)) (c.in_ok-mirrors.ensures.reads.only_read t))
    _ _ _ c.in_ok-traces.ensures.reads
    (λ t.
    let same = holds_kept (g.S.Shelf.told c.args.shelf.now) (g.S.Shelf.told c.read_edits.new.shelf) (c.in_ok-edits.ensures.reads.only_read t) in
    let later = holds_kept (g.S.Shelf.told c.read_edits.new.shelf) (g.S.Shelf.told c.read_steps.new.shelf) (c.in_ok-steps.ensures.reads.only_read t) in
    let last = holds_kept (g.S.Shelf.told c.read_steps.new.shelf) (g.S.Shelf.told c.read_mirrors.new.shelf) (c.in_ok-mirrors.ensures.reads.only_read t) in
    rw c.sources_of-sources.ensures.sources at (all_opened (g.S.Shelf.told c.args.shelf.now).holds c.args.command.flow_limit (sources_view c.sources_of-sources.result) (script_view c.in_ok-edits.edits.script) (c.in_ok-edits.ensures.ok t)
    c.in_ok-steps.steps.items (rw (c.as_slice-numbers.ensures.list, c.in_ok-ports.ensures, same) at c.in_ok-steps.ensures.ok t)
    c.in_ok-mirrors.mirrors.items (rw (c.as_slice-numbers.ensures.list, c.in_ok-ports.ensures, later, same) at c.in_ok-mirrors.ensures.ok t)
    (g.S.Shelf.told c.args.shelf.now) (g.S.Shelf.told c.read_edits.new.shelf) (g.S.Shelf.told c.read_steps.new.shelf) (g.S.Shelf.told c.read_mirrors.new.shelf) (c.in_ok-edits.ensures.reads.opened t) (c.in_ok-steps.ensures.reads.opened t) (c.in_ok-mirrors.ensures.reads.opened t)
    (g.S.Shelf.told c.read_traces.new.shelf) (rw (last, later, same) at c.in_ok-traces.ensures.reads.opened t)))
