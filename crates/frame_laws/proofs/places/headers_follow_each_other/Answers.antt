use Rattle.spec_frames.specs.declared.layout.L3.TheVariants.{Arp, Ipv4, Ipv6}
use Rattle.spec_frames.specs.declared.layout.L4.TheVariants.{Tcp, Udp, Icmp, Icmp6}
use Rattle.frame_laws.proofs.HeaderLaws.{network_follows, transport_follows}
use Rattle.frame_laws.proofs.places.headers_follow_each_other.Goals as goal

pub returns-clause-arp : goal.returns-clause-arp
returns-clause-arp c frame at = network_follows frame (Arp at)

pub returns-clause-ipv4 : goal.returns-clause-ipv4
returns-clause-ipv4 c frame at = network_follows frame (Ipv4 at)

pub returns-clause-ipv6 : goal.returns-clause-ipv6
returns-clause-ipv6 c frame at = network_follows frame (Ipv6 at)

pub returns-clause-tcp : goal.returns-clause-tcp
returns-clause-tcp c frame at = transport_follows frame (Tcp at)

pub returns-clause-udp : goal.returns-clause-udp
returns-clause-udp c frame at = transport_follows frame (Udp at)

pub returns-clause-icmp : goal.returns-clause-icmp
returns-clause-icmp c frame at = transport_follows frame (Icmp at)

pub returns-clause-icmp6 : goal.returns-clause-icmp6
returns-clause-icmp6 c frame at = transport_follows frame (Icmp6 at)
