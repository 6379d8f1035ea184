use Rattle.std.proofs.Common.{◌≡◌, ◌-◌, ◌≤◌, length, vec_len, vec_capacity}
use Rattle.std.specs.Prelude.{IsOk}
use Rattle.spec_pcap.specs.Pcap.{header_length, frames_from}
use Rattle.pcap_files.specs.Records.{frames_at, AreRecords}
use Rattle.pcap_files.proofs.reader.Walk.{after_prefix}
use Rattle.pcap_files.proofs.reader.records.starts_of.Given as goal

abbrev pub invariant-records : goal.invariant-records
invariant-records l =
    let left = frames_from l.format (l.count - vec_len l.starts) l.bytes l.at in
    record {
      within : l.at ≤ length l.bytes;
      room : l.count ≤ vec_capacity l.starts;
      records : AreRecords l.format l.bytes l.starts.items;
      whole : IsOk left;
      so_far : after_prefix (frames_at l.format l.bytes l.starts.items) left ≡ frames_from l.format l.count l.bytes header_length;
    }

abbrev pub decreases-records : goal.decreases-records
decreases-records l = length l.bytes - l.at
