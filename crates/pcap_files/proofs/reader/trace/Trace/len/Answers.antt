use Rattle.std.proofs.Common.{◌≡◌, ℕ, ◌+◌, ◌≤◌, Bool, true, false, if◌then◌else◌, nat_lt, List, length, drop, All, slice_index_or, Option, Some, None, refl, subst, arith}
use Rattle.std.proofs.lemmas.Bool.{ltb-false}
use Rattle.std.proofs.lemmas.List.{length-take}
use Rattle.std.proofs.lemmas.List.Elements.{All-map}
use Rattle.spec_pcap.specs.declared.fault.PcapFault.{PcapFault}
use Rattle.spec_pcap.specs.declared.fault.PcapFault.TheVariants.{ShortRecord, TooLong}
use Rattle.spec_pcap.specs.declared.format.Format.{Format}
use Rattle.spec_pcap.specs.Pcap.{Capture, record_header_length, snap_length, captured_at, record_fault, record_frame}
use Rattle.pcap_files.specs.Records.{IsShort}
use Rattle.pcap_files.proofs.reader.trace.Trace.len.Goals as goal

-- where nothing is wrong with a record, it has no more bytes than may be
captured_bound : (format : Format) (bytes : List ℕ) (at : ℕ) → record_fault format bytes at ≡ None → captured_at format bytes at ≤ snap_length
unfolding record_fault
captured_bound format bytes at whole = header (nat_lt (length bytes) (at + record_header_length)) _ whole
  where
    long : (t : Bool) → nat_lt snap_length (captured_at format bytes at) ≡ t → (rest : Option PcapFault)
        → (if t then Some (TooLong at (captured_at format bytes at)) else rest) ≡ None → captured_at format bytes at ≤ snap_length
    long true is rest e = absurd (cc)
    long false is rest e = ltb-false snap_length (captured_at format bytes at) is

    header : (t : Bool) → (rest : Option PcapFault)
        → (if t then Some (ShortRecord at) else (if nat_lt snap_length (captured_at format bytes at) then Some (TooLong at (captured_at format bytes at)) else rest)) ≡ None
        → captured_at format bytes at ≤ snap_length
    header true rest e = absurd (cc)
    header false rest e = long (nat_lt snap_length (captured_at format bytes at)) refl rest e

record-IsShort : (format : Format) (bytes : List ℕ) (at : ℕ) → record_fault format bytes at ≡ None → IsShort (record_frame format bytes at)
record-IsShort format bytes at whole =
    let bound = captured_bound format bytes at whole in
    let taken = length-take (captured_at format bytes at) (drop (at + record_header_length) bytes) in
    omega (arith, bound, taken)

pub returns-clause-short : goal.returns-clause-short
returns-clause-short c =
    let t = c.self.inside in
    let short : All (λ at. IsShort (record_frame t.format t.bytes.items at)) t.starts.items =
    λ k d within. record-IsShort t.format t.bytes.items (slice_index_or t.starts.items k d) (c.self.invariant k d within) in
    subst (λ (v : Capture). All IsShort v.frames) c.self.view_is (All-map IsShort (record_frame t.format t.bytes.items) t.starts.items short)
