use Rattle.std.proofs.Common.{◌≡◌, ◌-◌, ◌≤◌, length}
use Rattle.spec_pcap.specs.Pcap.{header_length, frames_from}
use Rattle.pcap_files.specs.Records.{count_of}
use Rattle.pcap_files.proofs.reader.Walk.{counted}
use Rattle.pcap_files.proofs.reader.records.count_records.Given as goal

abbrev pub invariant-records : goal.invariant-records
invariant-records l =
    let left = frames_from l.format (l.room - l.count) l.bytes l.at in
    record {
      within : l.at ≤ length l.bytes;
      room : l.count ≤ l.room;
      so_far : counted l.count left ≡ count_of (frames_from l.format l.room l.bytes header_length);
    }

abbrev pub decreases-records : goal.decreases-records
decreases-records l = length l.bytes - l.at
