use Rattle.std.proofs.Common.{◌≡◌, ◌++◌, take, IsTrue}
use Rattle.switch_input.specs.Pieces.{joined}
use Rattle.switch_input.proofs.refusals.say.say_pieces.Given as goal

abbrev pub invariant-pieces : goal.invariant-pieces
invariant-pieces g l = record {
  written : IsTrue g.K.Sink.tells → g.K.Sink.written l.say ≡ g.K.Sink.written l.fn.say ++ joined (take l.piece-index l.pieces);
  faults : g.K.Sink.faults l.say ≡ g.K.Sink.faults l.fn.say;
}
