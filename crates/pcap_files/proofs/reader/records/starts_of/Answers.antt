use Rattle.std.proofs.Common.{◌≡◌, ◌+◌, ◌<◌, vec_len, sym, ◌∙◌, arith}
use Rattle.std.specs.Prelude.{None}
use Rattle.std.proofs.lemmas.List.Elements.{All-push}
use Rattle.spec_pcap.specs.Pcap.{record_fault, record_end}
use Rattle.pcap_files.proofs.reader.Walk.{has_room, has_record, rest_is_whole, after_prefix-record, after_prefix-end, header-within, after-within}
use Rattle.pcap_files.proofs.reader.records.starts_of.Goals as goal

pub push_reserved-requires : goal.push_reserved-requires
push_reserved-requires c =
    let k = vec_len c.records.starts in
    let whole = c.records.invariant.whole in
    let free : k < c.args.count = has_room c.args.format c.args.bytes.now c.args.count k c.records.at c.records-test.true whole in
    omega arith

pub captured_at-requires : goal.captured_at-requires
captured_at-requires c =
    let bytes = c.args.bytes.now in
    let k = vec_len c.records.starts in
    let whole = c.records.invariant.whole in
    header-within c.args.format bytes c.records.at (has_record c.args.format bytes c.args.count k c.records.at c.records-test.true whole)

pub records-preserved : goal.records-preserved
records-preserved c =
    let format = c.args.format in
    let bytes = c.args.bytes.now in
    let count = c.args.count in
    let starts = c.records.starts.items in
    let k = vec_len c.records.starts in
    let at = c.records.at in
    let was = c.records.invariant in
    let more = c.records-test.true in
    let there : record_fault format bytes at ≡ None = has_record format bytes count k at more was.whole in
    let next : at + (16 + c.captured_at.result) ≡ record_end format bytes at = omega (arith, c.captured_at.ensures) in
    let items = c.push_reserved.ensures.items in
    let len = c.push_reserved.ensures.len in
    record {
      within = rw next (after-within format bytes at there);
      room = omega arith;
      records = rw items (All-push (λ at. record_fault format bytes at ≡ None) starts at was.records there);
      whole = rw (len, next) (rest_is_whole format bytes count k at more was.whole);
      so_far = rw (items, len, next) (sym (after_prefix-record format bytes starts count k at more was.whole) ∙ was.so_far);
    }

pub returns-clause-frames : goal.returns-clause-frames
returns-clause-frames c =
    sym c.records.invariant.so_far ∙ after_prefix-end c.args.format c.args.bytes.now _ _ c.records.at (omega arith)
