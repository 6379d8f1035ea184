use Rattle.std.proofs.Common.{◌≡◌, ◌++◌, take}
use Rattle.std.specs.List.{flat_map}
use Rattle.spec_base.specs.Bytes.{big_endian}
use Rattle.trace_gen.proofs.packets.push_words.Given as goal

abbrev pub invariant-words : goal.invariant-words
invariant-words l = l.bytes.items ≡ l.fn.bytes.items ++ flat_map (big_endian 2) (take l.word-index l.words)
