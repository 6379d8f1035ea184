use Rattle.text_laws.proofs.values.AddressLaws.{ipv6-ipv6_text}
use Rattle.text_laws.proofs.values.addresses.ipv6_reads_back.Goals as goal

pub returns : goal.returns
returns c = ipv6-ipv6_text
