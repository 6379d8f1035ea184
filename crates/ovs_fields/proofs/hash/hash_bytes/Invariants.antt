use Rattle.std.proofs.Common.{◌≡◌, take}
use Rattle.spec_keys.specs.Hash.{hash_bytes}
use Rattle.ovs_fields.proofs.hash.hash_bytes.Given as goal

abbrev pub invariant-loop-byte : goal.invariant-loop-byte
invariant-loop-byte l = l.hash ≡ hash_bytes l.fn.hash (take l.byte-index l.bytes)
