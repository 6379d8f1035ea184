use Rattle.std.proofs.Common.{◌≡◌, ◌≤◌, length, drop, IsTrue}
use Rattle.std.specs.Prelude.{All}
use Rattle.edge_io.specs.declared.outside.InUse.TheVariants.{Nothing}
use Rattle.edge_io.specs.ReadAll.{OnlyRead}
use Rattle.spec_pcap.specs.Pcap.{Capture}
use Rattle.spec_run.specs.Limits.{most_trace_bytes, most_frames}
use Rattle.spec_run.specs.Verdict.{traces_after, traces_in, traces_opened}
use Rattle.command_words.specs.PortViews.{ports_view}
use Rattle.switch_input.proofs.Opened.{HasLeft}
use Rattle.switch_input.proofs.reading.read_traces.Given as goal

abbrev pub invariant-ports : goal.invariant-ports
invariant-ports g l = record {
  in_use : g.S.Shelf.in_use l.shelf ≡ Nothing;
  bytes : l.bytes_left ≤ most_trace_bytes;
  frames : l.frames_left ≤ most_frames;
  one_each : length l.traces.items ≡ l.w-index;
  few_frames : All (λ (t : Capture). length t.frames ≤ most_frames) l.traces.items;
  verdict : IsTrue g.S.Shelf.tells → traces_after (g.S.Shelf.told l.fn.shelf).holds l.traces.items l.bytes_left l.frames_left (ports_view (drop l.w-index l.ports)) ≡ traces_in (g.S.Shelf.told l.fn.shelf).holds (ports_view l.ports);
  opened : IsTrue g.S.Shelf.tells → HasLeft (g.S.Shelf.told l.fn.shelf) (g.S.Shelf.told l.shelf)
      (traces_opened (g.S.Shelf.told l.fn.shelf).holds l.bytes_left l.frames_left (ports_view (drop l.w-index l.ports)))
      (traces_opened (g.S.Shelf.told l.fn.shelf).holds most_trace_bytes most_frames (ports_view l.ports));
  told : IsTrue g.S.Shelf.tells → OnlyRead (g.S.Shelf.told l.fn.shelf) (g.S.Shelf.told l.shelf);
  counts : g.S.Shelf.counts l.shelf ≡ g.S.Shelf.counts l.fn.shelf;
}
