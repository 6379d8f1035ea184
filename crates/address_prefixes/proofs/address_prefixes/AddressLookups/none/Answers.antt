use Rattle.spec_keys.specs.declared.field_id.FieldId.TheVariants.{NwSrc, NwDst, Ipv6Src, Ipv6Dst}
use Rattle.address_prefixes.proofs.address_prefixes.AddressLookups.none.Goals as goal

pub returns : goal.returns
returns c key rs = record { ipv4 = c.none.ensures NwSrc NwDst key rs; ipv6 = c.none-2.ensures Ipv6Src Ipv6Dst key rs }
