use Rattle.text_laws.proofs.values.MaskLaws.{ipv6_mask-ipv6_mask_text}
use Rattle.text_laws.proofs.values.addresses.ipv6_mask_reads_back.Goals as goal

pub returns : goal.returns
returns c = ipv6_mask-ipv6_mask_text
