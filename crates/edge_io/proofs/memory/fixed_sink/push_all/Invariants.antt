use Rattle.std.proofs.Common.{◌≡◌, ◌+◌, ◌++◌, take, vec_len, vec_capacity}
use Rattle.edge_io.proofs.memory.fixed_sink.push_all.Given as goal

abbrev pub invariant-bytes : goal.invariant-bytes
invariant-bytes l = record {
  items : l.text.items ≡ l.initial.text.items ++ take l.byte-index l.bytes;
  len : vec_len l.text ≡ vec_len l.initial.text + l.byte-index;
  capacity : vec_capacity l.text ≡ vec_capacity l.initial.text;
}
