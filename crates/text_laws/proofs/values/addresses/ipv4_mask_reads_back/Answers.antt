use Rattle.text_laws.proofs.values.MaskLaws.{ipv4_mask-ipv4_mask_text}
use Rattle.text_laws.proofs.values.addresses.ipv4_mask_reads_back.Goals as goal

pub returns : goal.returns
returns c = ipv4_mask-ipv4_mask_text
