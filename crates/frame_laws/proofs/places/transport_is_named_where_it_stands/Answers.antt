use Rattle.spec_frames.specs.declared.layout.L4.TheVariants.{Tcp, Udp, Icmp, Icmp6}
use Rattle.frame_laws.proofs.TransportLaws.{named-iff}
use Rattle.frame_laws.proofs.places.transport_is_named_where_it_stands.Goals as goal

pub returns-clause-tcp : goal.returns-clause-tcp
returns-clause-tcp c port frame at = named-iff port frame (Tcp at) (λ e. cc)

pub returns-clause-udp : goal.returns-clause-udp
returns-clause-udp c port frame at = named-iff port frame (Udp at) (λ e. cc)

pub returns-clause-icmp : goal.returns-clause-icmp
returns-clause-icmp c port frame at = named-iff port frame (Icmp at) (λ e. cc)

pub returns-clause-icmp6 : goal.returns-clause-icmp6
returns-clause-icmp6 c port frame at = named-iff port frame (Icmp6 at) (λ e. cc)
