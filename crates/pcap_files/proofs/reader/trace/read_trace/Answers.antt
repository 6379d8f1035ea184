use Rattle.std.proofs.Common.{◌≡◌, ℕ, List, sym, ◌∙◌, inr}
use Rattle.std.specs.Prelude.{Ok}
use Rattle.std.proofs.lemmas.Bool.{false≢true}
use Rattle.std.proofs.lemmas.Result.{err_from_is_err_and}
use Rattle.spec_pcap.specs.declared.format.Format.{Format}
use Rattle.spec_pcap.specs.Pcap.{header_length, frames_from}
use Rattle.pcap_files.specs.Records.{count_of}
use Rattle.pcap_files.proofs.reader.Captures.{Found, frames_from-found, frames_fit, capture_of-no_format, capture_of-no_count, capture_of-counted, capture_of-frames}
use Rattle.pcap_files.proofs.reader.trace.read_trace.Goals as goal

-- what the walk counted stands in the file's bytes
found : (format : Format) (bytes walked : List ℕ) (room count : ℕ) → walked ≡ bytes
    → Ok count ≡ count_of (frames_from format room walked header_length) → Found format bytes room header_length count
found format bytes walked room count is counted = frames_from-found format bytes room header_length count (rw is at counted)

pub returns-in_err-format-clause-fault : goal.returns-in_err-format-clause-fault
returns-in_err-format-clause-fault c =
    let p = err_from_is_err_and c.from_residual.result c.from_residual.ensures.1 in
    let refused = capture_of-no_format c.args.room c.args.bytes.items c.in_err-format.field-0.0 (sym (rw c.deref.ensures.value at c.in_err-format.ensures.format)) in
    λ fault is. cc (p.1, p.2, is, refused)

pub returns-in_err-format-clause-cause : goal.returns-in_err-format-clause-cause
returns-in_err-format-clause-cause c =
    let p = err_from_is_err_and c.from_residual.result c.from_residual.ensures.1 in
    let refused = capture_of-no_format c.args.room c.args.bytes.items c.in_err-format.field-0.0 (sym (rw c.deref.ensures.value at c.in_err-format.ensures.format)) in
    rw (p.1, p.2) (inr refused)

pub returns-in_err-count-clause-fault : goal.returns-in_err-count-clause-fault
returns-in_err-count-clause-fault c =
    let p = err_from_is_err_and c.from_residual-in_err-count.result c.from_residual-in_err-count.ensures.1 in
    let there = sym (rw c.deref.ensures.value at c.in_ok-format.ensures.format) in
    let none = rw c.deref-2.ensures.value at c.in_err-count.ensures in
    let refused = capture_of-no_count c.args.room c.args.bytes.items c.in_ok-format.format c.in_err-count.field-0.0 there none in
    λ fault is. cc (p.1, p.2, is, refused)

pub returns-in_err-count-clause-cause : goal.returns-in_err-count-clause-cause
returns-in_err-count-clause-cause c =
    let p = err_from_is_err_and c.from_residual-in_err-count.result c.from_residual-in_err-count.ensures.1 in
    let there = sym (rw c.deref.ensures.value at c.in_ok-format.ensures.format) in
    let none = rw c.deref-2.ensures.value at c.in_err-count.ensures in
    let refused = capture_of-no_count c.args.room c.args.bytes.items c.in_ok-format.format c.in_err-count.field-0.0 there none in
    rw (p.1, p.2) (inr refused)

pub starts_of-requires-clause-whole : goal.starts_of-requires-clause-whole
starts_of-requires-clause-whole c =
    let records = found c.in_ok-format.format c.args.bytes.items _ c.args.room c.in_ok-count.count c.deref-2.ensures.value c.in_ok-count.ensures in
    rw c.deref-3.ensures.value records.some

pub returns-in_default-clause-fault : goal.returns-in_default-clause-fault
returns-in_default-clause-fault c =
    let there = sym (rw c.deref.ensures.value at c.in_ok-format.ensures.format) in
    let counted = rw c.deref-2.ensures.value at c.in_ok-count.ensures in
    let whole = capture_of-counted c.args.room c.args.bytes.items c.in_ok-format.format c.in_ok-count.count there counted in
    λ fault is. absurd (false≢true (rw is at whole))

pub returns-clause-ok : goal.returns-clause-ok
returns-clause-ok c =
    let there = sym (rw c.deref.ensures.value at c.in_ok-format.ensures.format) in
    let records = found c.in_ok-format.format c.args.bytes.items _ c.args.room c.in_ok-count.count c.deref-2.ensures.value c.in_ok-count.ensures in
    let frames = rw c.deref-3.ensures.value at c.in-Ok.ensures.frames in
    capture_of-frames c.args.room c.args.bytes.items c.in_ok-format.format _ there (sym records.same ∙ frames)

pub returns-clause-count : goal.returns-clause-count
returns-clause-count c =
    let records = found c.in_ok-format.format c.args.bytes.items _ c.args.room c.in_ok-count.count c.deref-2.ensures.value c.in_ok-count.ensures in
    let frames = rw c.deref-3.ensures.value at c.in-Ok.ensures.frames in
    frames_fit c.args.room c.args.bytes.items c.in_ok-format.format _ (sym records.same ∙ frames)

pub returns-clause-fault : goal.returns-clause-fault
returns-clause-fault c = λ fault is. absurd (cc (is, returns-clause-ok c))
