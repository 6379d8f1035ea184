use Rattle.std.proofs.Common.{refl}
use Rattle.spec_keys.specs.Hash.{hash_bytes}
use Rattle.ovs_fields.proofs.HashLaws.{hash_bytes-take_more}
use Rattle.ovs_fields.proofs.hash.hash_bytes.Goals as goal

pub loop-byte-init : goal.loop-byte-init
unfolding hash_bytes
loop-byte-init c = refl

pub loop-byte-preserved : goal.loop-byte-preserved
loop-byte-preserved c =
    rw (hash_bytes-take_more c.args.hash c.args.bytes.now c.loop-byte.byte-index c.loop-byte-test.true) (cc)
