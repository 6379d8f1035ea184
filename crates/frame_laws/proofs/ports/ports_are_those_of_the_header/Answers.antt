use Rattle.spec_frames.specs.declared.layout.L4.TheVariants.{None, Tcp, Udp, Icmp, Icmp6}
use Rattle.frame_laws.proofs.PortLaws.{ports_of_whole}
use Rattle.frame_laws.proofs.ports.ports_are_those_of_the_header.Goals as goal

pub returns-clause-tcp : goal.returns-clause-tcp
returns-clause-tcp c port frame at = ports_of_whole port frame (Tcp at)

pub returns-clause-udp : goal.returns-clause-udp
returns-clause-udp c port frame at = ports_of_whole port frame (Udp at)

pub returns-clause-icmp : goal.returns-clause-icmp
returns-clause-icmp c port frame at = ports_of_whole port frame (Icmp at)

pub returns-clause-icmp6 : goal.returns-clause-icmp6
returns-clause-icmp6 c port frame at = ports_of_whole port frame (Icmp6 at)

pub returns-clause-none : goal.returns-clause-none
returns-clause-none c port frame = ports_of_whole port frame None
