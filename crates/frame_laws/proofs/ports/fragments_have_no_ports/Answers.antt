use Rattle.frame_laws.proofs.PortLaws.{ports_of_fragment, header_of_later}
use Rattle.frame_laws.proofs.ports.fragments_have_no_ports.Goals as goal

pub returns-clause-ports : goal.returns-clause-ports
returns-clause-ports c = ports_of_fragment

pub returns-clause-later : goal.returns-clause-later
returns-clause-later c = header_of_later
