use Rattle.text_laws.proofs.values.WithinLaws.{mac_within, ipv4_within, ipv6_within}
use Rattle.text_laws.proofs.values.ranges.addresses_are_within.Goals as goal

pub returns-clause-mac : goal.returns-clause-mac
returns-clause-mac c text n h = mac_within text n h

pub returns-clause-ipv4 : goal.returns-clause-ipv4
returns-clause-ipv4 c text n h = ipv4_within text n h

pub returns-clause-ipv6 : goal.returns-clause-ipv6
returns-clause-ipv6 c text n h = ipv6_within text n h
