use Rattle.text_laws.proofs.values.AddressLaws.{mac-mac_text}
use Rattle.text_laws.proofs.values.addresses.mac_reads_back.Goals as goal

pub returns : goal.returns
returns c = mac-mac_text
