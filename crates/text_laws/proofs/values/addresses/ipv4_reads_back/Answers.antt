use Rattle.text_laws.proofs.values.AddressLaws.{ipv4-ipv4_text}
use Rattle.text_laws.proofs.values.addresses.ipv4_reads_back.Goals as goal

pub returns : goal.returns
returns c = ipv4-ipv4_text
