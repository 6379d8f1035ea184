use Rattle.std.proofs.Common.{◌-◌, ◌≤◌, length}
use Rattle.pcap_files.proofs.reader.Consecutive.{AreAsWritten}
use Rattle.pcap_files.proofs.reader.trace.Trace.records.Given as goal

abbrev pub invariant-records : goal.invariant-records
invariant-records l =
    let t = l.self-inside in
    record {
      few : l.count ≤ l.most;
      order : l.begin ≤ l.end;
      within : l.end ≤ length t.bytes.items;
      written : AreAsWritten t.format t.bytes.items t.starts.items l.nanos l.begin l.end l.first l.count;
    }

abbrev pub decreases-records : goal.decreases-records
decreases-records l = l.most - l.count
