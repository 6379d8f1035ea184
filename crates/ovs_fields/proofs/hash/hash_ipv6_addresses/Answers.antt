use Rattle.std.proofs.Common.{refl, arith, rules}
use Rattle.ovs_fields.specs.Lists.{list_of}
use Rattle.ovs_fields.specs.Runs.{ipv6_addresses}
use Rattle.ovs_fields.proofs.HashLaws.{hash_of_zeros}
use Rattle.ovs_fields.proofs.hash.hash_ipv6_addresses.Goals as goal

pub returns-then-fields-eq0-2 : goal.returns-then-fields-eq0-2
returns-then-fields-eq0-2 c =
    hash_of_zeros ipv6_addresses (list_of c.args.fields.now) _ c.args.hash refl (omega arith) (search rules)
