use Rattle.std.proofs.Common.{◌+◌, ◌≤◌, IsTrue, length, arith, rules, ap, ◌∙◌}
use Rattle.std.proofs.lemmas.List.{length_push}
use Rattle.std.proofs.lemmas.List.Elements.{All-push}
use Rattle.std.proofs.lemmas.Result.{err_from_is_err_and}
use Rattle.edge_io.specs.Shelf.{Told}
use Rattle.spec_pcap.specs.Pcap.{Capture}
use Rattle.spec_run.specs.Limits.{most_frames}
use Rattle.switch_input.specs.InputViews.{trace_view}
use Rattle.switch_input.proofs.Opened.{all_left}
use Rattle.switch_input.proofs.Walk.{next_trace, explained, all_traces, opened_here, opened_more, all_opened}
use Rattle.switch_input.proofs.refusals.Reading.{only_read-trans, reads_after}
use Rattle.switch_input.proofs.reading.read_traces.Goals as goal

pub returns-in_err-read-clause-err : goal.returns-in_err-read-clause-err
returns-in_err-read-clause-err g c = λ t.
    let p = err_from_is_err_and c.from_residual.result c.from_residual.ensures.1 in
    rw (p.1, p.2) (explained _ c.ports.bytes_left c.ports.frames_left c.args.ports.now c.ports.w-index _ _ _ c.in_err-read.field-0.0 c.ports-test.true (rw (ap (λ (w : Told). w.holds) (c.ports.invariant.told t)) at c.in_err-read.ensures.err t) (c.ports.invariant.verdict t))

pub returns-in_err-read-clause-reads : goal.returns-in_err-read-clause-reads
returns-in_err-read-clause-reads g c =
    let p = err_from_is_err_and c.from_residual.result c.from_residual.ensures.1 in
    let before = c.ports.invariant in
    rw (p.1, p.2) (reads_after (IsTrue g.S.Shelf.tells) g.S.Shelf c.args.shelf.now c.ports.shelf c.read_port_trace.new.shelf before.counts before.told _ _ _ c.in_err-read.ensures.reads
    (λ t.
    let why = rw (ap (λ (w : Told). w.holds) (before.told t)) at c.in_err-read.ensures.err t in
    opened_here _ c.ports.bytes_left c.ports.frames_left c.args.ports.now c.ports.w-index _ c.ports-test.true
    _ _ _ _ (before.opened t) c.in_err-read.field-0.0 why (c.in_err-read.ensures.reads.opened t)))

pub returns-in_err-push-clause-reads : goal.returns-in_err-push-clause-reads
returns-in_err-push-clause-reads g c =
    let p = err_from_is_err_and c.from_residual-in_err-push.result c.from_residual-in_err-push.ensures.1 in
    let before = c.ports.invariant in
    let read = c.in_ok-read.ensures in
    rw (p.1, p.2) (record {
      counts = read.reads.counts ∙ before.counts;
      since = λ t. tt;
      named = λ t. tt;
      only_read = λ t. only_read-trans (g.S.Shelf.told c.args.shelf.now) (g.S.Shelf.told c.ports.shelf) (g.S.Shelf.told c.read_port_trace.new.shelf) (before.told t) (read.reads.only_read t);
      opened = λ t.
          let read_ok = rw (ap (λ (w : Told). w.holds) (before.told t)) at read.ok t in
          (opened_more _ c.ports.bytes_left c.ports.frames_left c.args.ports.now c.ports.w-index _ c.ports-test.true
          _ _ _ _ (before.opened t) (trace_view c.in_ok-read.read) read_ok (read.reads.opened t)).0;
    })

pub ports-init : goal.ports-init
ports-init g c = record {
  in_use = search rules;
  bytes = search rules;
  frames = search rules;
  one_each = search rules;
  few_frames = search rules;
  verdict = search rules;
  opened = λ t. all_left _ _;
  told = search rules;
  counts = search rules;
}

pub ports-preserved : goal.ports-preserved
ports-preserved g c =
    let before = c.ports.invariant in
    let read = c.in_ok-read.ensures in
    let grown = c.in_ok-push.ensures.items in
    record {
      in_use = read.in_use;
      bytes = omega (arith, before.bytes);
      frames = omega (arith, before.frames);
      one_each = ap length grown ∙ length_push c.ports.traces.items c.in_ok-read.read.trace ∙ ap (λ n. n + 1) before.one_each;
      few_frames = rw grown (All-push (λ (t : Capture). length t.frames ≤ most_frames) c.ports.traces.items c.in_ok-read.read.trace before.few_frames (omega (arith, read.frames, before.frames)));
      verdict = λ t.
          let same = ap (λ (w : Told). w.holds) (before.told t) in
          rw (grown, c.len-frames_left.ensures.count)
          (next_trace _ c.ports.bytes_left c.ports.frames_left c.args.ports.now c.ports.w-index _ _ (trace_view c.in_ok-read.read) _ c.ports-test.true (rw same at read.ok t) (before.verdict t));
      opened = λ t.
          let read_ok = rw (ap (λ (w : Told). w.holds) (before.told t)) at read.ok t in
          rw c.len-frames_left.ensures.count
          (opened_more _ c.ports.bytes_left c.ports.frames_left c.args.ports.now c.ports.w-index _ c.ports-test.true _ _ _ _ (before.opened t) (trace_view c.in_ok-read.read) read_ok (read.reads.opened t));
      told = λ t. only_read-trans (g.S.Shelf.told c.args.shelf.now) (g.S.Shelf.told c.ports.shelf) (g.S.Shelf.told c.read_port_trace.new.shelf) (before.told t) (read.reads.only_read t);
      counts = read.reads.counts ∙ before.counts;
    }

pub returns-clause-ok : goal.returns-clause-ok
returns-clause-ok g c = λ t. all_traces _ c.ports.bytes_left c.ports.frames_left c.args.ports.now c.ports.w-index _ _ (omega arith) (c.ports.invariant.verdict t)

pub returns-clause-reads : goal.returns-clause-reads
returns-clause-reads g c = record {
  counts = c.ports.invariant.counts;
  since = λ t. tt;
  named = λ t. tt;
  only_read = c.ports.invariant.told;
  opened = λ t. all_opened _ c.ports.bytes_left c.ports.frames_left c.args.ports.now c.ports.w-index _ _ _ (omega arith) (c.ports.invariant.opened t);
}
