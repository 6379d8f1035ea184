use Rattle.std.proofs.Common.{◌≡◌, ℕ, ◌<◌, Bool, true, false, get_or, refl, sym, ◌∙◌}
use Rattle.std.proofs.lemmas.Bool.{eqb-true}
use Rattle.std.proofs.Math.Bool.{beq}
use Rattle.std.proofs.Math.Facts.{Fits-lt-pow}
use Rattle.pcap_files.proofs.reader.Consecutive.{record_written}
use Rattle.pcap_files.proofs.reader.records.is_as_written.Goals as goal

same : (x y : Bool) → beq x y ≡ true → x ≡ y
same true true e = refl
same true false e = sym e
same false true e = e
same false false e = refl

pub returns-then-format-nanos : goal.returns-then-format-nanos
returns-then-format-nanos c = λ yes.
    let args = c.args in
    let small : (i : ℕ) → get_or args.bytes.now i 0 < 256 = λ i. Fits-lt-pow (c.type_inv.bytes i) in
    let unit = same args.format.nanos args.nanos c.if-format-nanos.true in
    let lengths = sym c.captured_at.ensures ∙ eqb-true c.captured_at.result c.wire_length_at.result yes ∙ c.wire_length_at.ensures in
    record_written args.format args.bytes.now args.at args.nanos small c.in-LittleEndian.is unit c.requires lengths
