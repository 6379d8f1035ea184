use Rattle.text_laws.proofs.values.WithinLaws.{ipv4_mask_within, ipv6_mask_within}
use Rattle.text_laws.proofs.values.ranges.masks_are_within.Goals as goal

pub returns-clause-ipv4 : goal.returns-clause-ipv4
returns-clause-ipv4 c text mask h = ipv4_mask_within text mask h

pub returns-clause-ipv6 : goal.returns-clause-ipv6
returns-clause-ipv6 c text mask h = ipv6_mask_within text mask h
