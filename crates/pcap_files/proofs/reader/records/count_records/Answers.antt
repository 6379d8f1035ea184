use Rattle.std.proofs.Common.{◌≡◌, ◌+◌, ap, sym, ◌∙◌, arith}
use Rattle.std.specs.Prelude.{None}
use Rattle.spec_pcap.specs.Pcap.{record_fault, record_end}
use Rattle.pcap_files.proofs.reader.Walk.{counted, counted-end, counted-record, no_room, no_record, header-within, after-within}
use Rattle.pcap_files.proofs.reader.records.count_records.Goals as goal

pub returns-then-count-room : goal.returns-then-count-room
returns-then-count-room c =
    let k = c.records.count in
    let full = no_room c.args.format c.args.bytes.now c.args.room k c.records.at c.if-count-room.true c.records-test.true in
    sym (ap (counted k) full) ∙ c.records.invariant.so_far

pub returns-in-Some : goal.returns-in-Some
returns-in-Some c =
    let k = c.records.count in
    let at = c.records.at in
    let faulty = sym c.record_fault.ensures ∙ c.in-Some.is in
    let ended = no_record c.args.format c.args.bytes.now c.args.room k at c.in-Some.fault c.if-count-room.false c.records-test.true faulty in
    sym (ap (counted k) ended) ∙ c.records.invariant.so_far

pub captured_at-requires : goal.captured_at-requires
captured_at-requires c =
    header-within c.args.format c.args.bytes.now c.records.at (sym c.record_fault.ensures ∙ c.in_default.is)

pub records-preserved : goal.records-preserved
records-preserved c =
    let format = c.args.format in
    let bytes = c.args.bytes.now in
    let k = c.records.count in
    let at = c.records.at in
    let whole : record_fault format bytes at ≡ None = sym c.record_fault.ensures ∙ c.in_default.is in
    let next : at + (16 + c.captured_at.result) ≡ record_end format bytes at = omega (arith, c.captured_at.ensures) in
    let passed = counted-record format bytes c.args.room k at c.if-count-room.false c.records-test.true whole in
    record {
      within = rw next (after-within format bytes at whole);
      room = omega arith;
      so_far = rw next (sym passed ∙ c.records.invariant.so_far);
    }

pub returns : goal.returns
returns c =
    let ended = counted-end c.args.format c.args.bytes.now _ c.records.count c.records.at (omega arith) in
    sym ended ∙ c.records.invariant.so_far
