use Rattle.std.proofs.Common.{◌≡◌, take}
use Rattle.spec_exec.specs.Checksum.{ones_sum}
use Rattle.net_bytes.proofs.checksum.checksum_of.Given as goal

abbrev pub invariant-words : goal.invariant-words
invariant-words l = l.sum ≡ ones_sum (take l.word-index l.words)
