use Rattle.std.proofs.Common.{◌≡◌, ◌+◌, ◌*◌, drop}
use Rattle.action_exec.specs.Placed.{zero_of}
use Rattle.action_exec.specs.Following.{after_list}
use Rattle.action_exec.proofs.checksum.after_words.Given as goal

abbrev pub invariant-words : goal.invariant-words
invariant-words l = record {
  reached : l.at ≡ l.fn.at + 2 * l.from-index;
  so_far : after_list (zero_of l.zero_says) (drop l.from-index l.words) l.at l.frame l.sum
      ≡ after_list (zero_of l.zero_says) l.words l.fn.at l.frame l.fn.sum;
}
