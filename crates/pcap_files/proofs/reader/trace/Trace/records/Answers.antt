use Rattle.std.proofs.Common.{◌≡◌, ◌+◌, ◌-◌, ◌<◌, ℕ, length, List, None, get_or, subst, sym, ap, ◌∙◌, arith, refl}
use Rattle.std.proofs.lemmas.List.{length-map}
use Rattle.spec_pcap.specs.declared.format.Format.{Format}
use Rattle.spec_pcap.specs.Pcap.{Capture, captured_at, record_fault, record_frame, record_end}
use Rattle.pcap_files.specs.Records.{AreRecords, capture_at}
use Rattle.pcap_files.proofs.reader.Walk.{header-within, after-within}
use Rattle.pcap_files.proofs.reader.Consecutive.{written_more, none_written}
use Rattle.pcap_files.proofs.reader.trace.Trace.records.Goals as goal

module _ (format : Format) (bytes starts : List ℕ) where
  -- there is a frame for each record
  one_each : (seen : Capture) → capture_at format bytes starts ≡ seen → length seen.frames ≡ length starts
  one_each seen is = ap (λ (v : Capture). length v.frames) (sym is) ∙ length-map starts (record_frame format bytes)

  -- and each is whole
  whole_at : (i at d : ℕ) → AreRecords format bytes starts → i < length starts → at ≡ get_or starts i d
      → record_fault format bytes at ≡ None
  whole_at i at d whole within is = subst (λ (k : ℕ). record_fault format bytes k ≡ None) (sym is) (whole i d within)

pub records-init : goal.records-init
records-init c =
    let t = c.self.inside in
    let bytes = t.bytes.items in
    let starts = t.starts.items in
    let begin = c.index-begin.result.now in
    let many = one_each t.format bytes starts c.args.self.now c.self.view_is in
    let within : c.args.place - 1 < length starts = omega (arith, many, c.requires.first, c.requires.some, c.requires.last) in
    let whole = whole_at t.format bytes starts _ begin _ c.self.invariant within c.index-begin.ensures in
    record {
      few = omega arith;
      order = omega arith;
      within = omega (arith, header-within t.format bytes begin whole);
      written = none_written bytes begin;
    }

pub captured_at-requires : goal.captured_at-requires
captured_at-requires c =
    let t = c.self.inside in
    let bytes = t.bytes.items in
    let starts = t.starts.items in
    let at = c.index-at.result.now in
    let many = one_each t.format bytes starts c.args.self.now c.self.view_is in
    let within : (c.args.place - 1) + c.records.count < length starts =
    omega (arith, many, c.requires.first, c.requires.last, c.records-test.true) in
    let whole = whole_at t.format bytes starts _ at _ c.self.invariant within c.index-at.ensures in
    rw c.deref-in-records.ensures.value (header-within t.format bytes at whole)

pub records-preserved : goal.records-preserved
records-preserved c =
    let t = c.self.inside in
    let bytes = t.bytes.items in
    let starts = t.starts.items in
    let first = c.args.place - 1 in
    let begin = c.index-begin.result.now in
    let at = c.index-at.result.now in
    let was = c.records.invariant in
    let many = one_each t.format bytes starts c.args.self.now c.self.view_is in
    let within : first + c.records.count < length starts =
    omega (arith, many, c.requires.first, c.requires.last, c.records-test.true) in
    let whole = whole_at t.format bytes starts _ at _ c.self.invariant within c.index-at.ensures in
    let n : c.captured_at.result ≡ captured_at t.format bytes at =
    rw (← c.deref-in-records.ensures.value) c.captured_at.ensures in
    let next : at + 16 + c.captured_at.result ≡ record_end t.format bytes at = omega (arith, n) in
    let end : at ≡ c.records.end = c.if-at-end.false in
    let as_written = rw c.deref.ensures.value at (c.if-not-is_as_written.ensures refl) in
    record {
      few = omega (arith, c.records-test.true);
      order = omega (arith, end, was.order);
      within = rw next (after-within t.format bytes at whole);
      written =
          written_more t.format bytes starts c.args.nanos begin at first c.records.count c.captured_at.result at
          (omega (arith, end, was.order)) within c.index-at.ensures n as_written (rw end was.written);
    }
