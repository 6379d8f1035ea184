use Rattle.std.proofs.Common.{◌≡◌, length, take}
use Rattle.action_exec.specs.declared.shape.TheConstants.{MOST_WORDS}
use Rattle.action_exec.specs.Following.{frame_words}
use Rattle.action_exec.proofs.checksum.words_at.Given as goal

abbrev pub invariant-words : goal.invariant-words
invariant-words l = record {
  room : length l.words ≡ MOST_WORDS;
  so_far : take l.i l.words ≡ frame_words l.i l.frame l.at;
}
