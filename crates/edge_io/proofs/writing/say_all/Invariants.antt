use Rattle.std.proofs.Common.{◌≡◌, ◌++◌, ◌-◌, ◌≤◌, length, take}
use Rattle.std.specs.Prelude.{IsTrue}
use Rattle.edge_io.proofs.writing.say_all.Given as goal

abbrev pub invariant-loop-at : goal.invariant-loop-at
invariant-loop-at g l = record {
  within : l.at ≤ length l.bytes;
  told : IsTrue g.K.Sink.tells →
      g.K.Sink.written l.say ≡ g.K.Sink.written l.initial.say ++ take l.at l.bytes;
  faults : g.K.Sink.faults l.say ≡ g.K.Sink.faults l.initial.say;
}

abbrev pub decreases-loop-at : goal.decreases-loop-at
decreases-loop-at g l = length l.bytes - l.at
