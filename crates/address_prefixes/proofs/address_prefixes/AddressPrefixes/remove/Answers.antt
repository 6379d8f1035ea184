use Rattle.spec_keys.specs.declared.field_id.FieldId.TheVariants.{NwSrc, NwDst, Ipv6Src, Ipv6Dst}
use Rattle.ovs_fields.specs.Packed.{bits}
use Rattle.address_prefixes.proofs.PairLaws.{pair_wide, pair_widths}
use Rattle.address_prefixes.proofs.AddressLaws.{ipv4_less, ipv6_less, ipv4_has, ipv6_has}
use Rattle.address_prefixes.proofs.address_prefixes.AddressPrefixes.remove.Goals as goal

pub remove_pair-requires-clause-widths : goal.remove_pair-requires-clause-widths
remove_pair-requires-clause-widths c = pair_widths c.new-prefixes.result.ipv4 c.args.self.now.ipv4 NwSrc NwDst (bits c.args.matching.now.mask) c.new-prefixes.ensures.ipv4 (pair_wide c.args.self.now.ipv4 NwSrc NwDst c.requires.0 c.requires.2.ipv4)

pub remove_pair-requires-clause-there : goal.remove_pair-requires-clause-there
remove_pair-requires-clause-there c = ipv4_has c.args.matching.now c.new-prefixes.result c.new-prefixes.ensures c.requires.1 c.requires.4 c.args.self.now.ipv4 c.requires.0 c.requires.2.ipv4 c.requires.3

pub remove_pair-requires-2-clause-widths : goal.remove_pair-requires-2-clause-widths
remove_pair-requires-2-clause-widths c = pair_widths c.new-prefixes.result.ipv6 c.args.self.now.ipv6 Ipv6Src Ipv6Dst (bits c.args.matching.now.mask) c.new-prefixes.ensures.ipv6 (pair_wide c.args.self.now.ipv6 Ipv6Src Ipv6Dst c.requires.0 c.requires.2.ipv6)

pub remove_pair-requires-2-clause-there : goal.remove_pair-requires-2-clause-there
remove_pair-requires-2-clause-there c = ipv6_has c.args.matching.now c.new-prefixes.result c.new-prefixes.ensures c.requires.1 c.requires.4 c.args.self.now.ipv6 c.requires.0 c.requires.2.ipv6 c.requires.3

pub returns : goal.returns
returns c rs left r are is one = record {
  ipv4 = ipv4_less c.args.matching.now c.new-prefixes.result c.new-prefixes.ensures r is c.args.self.now.ipv4 c.remove_pair.new.pair rs left are.ipv4 c.remove_pair.ensures one;
  ipv6 = ipv6_less c.args.matching.now c.new-prefixes.result c.new-prefixes.ensures r is c.args.self.now.ipv6 c.remove_pair-2.new.pair rs left are.ipv6 c.remove_pair-2.ensures one;
}
