use Rattle.std.proofs.Common.{refl, arith, rules}
use Rattle.ovs_fields.specs.Lists.{list_of}
use Rattle.ovs_fields.specs.Runs.{tags}
use Rattle.ovs_fields.proofs.HashLaws.{hash_of_zeros}
use Rattle.ovs_fields.proofs.hash.hash_tags.Goals as goal

pub returns-then-fields-eq0-3 : goal.returns-then-fields-eq0-3
returns-then-fields-eq0-3 c =
    hash_of_zeros tags (list_of c.args.fields.now) _ c.args.hash refl (omega arith) (search rules)
