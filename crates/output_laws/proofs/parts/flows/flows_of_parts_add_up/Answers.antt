use Rattle.output_laws.proofs.parts.ClassTimes.{tell_times}
use Rattle.output_laws.proofs.parts.FlowsOfParts.{flows_add_up}
use Rattle.output_laws.proofs.parts.flows.flows_of_parts_add_up.Goals as goal

pub returns-clause-sums : goal.returns-clause-sums
returns-clause-sums c times run journals cut may are class =
    flows_add_up times run journals cut are may class c.every_packet_is_counted_once.ensures.class_packets c.every_packet_is_counted_once.ensures.class_octets

pub returns-clause-times : goal.returns-clause-times
returns-clause-times c run decided class = tell_times class run decided
