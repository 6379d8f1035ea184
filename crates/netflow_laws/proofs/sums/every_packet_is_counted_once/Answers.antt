use Rattle.std.proofs.Common.{refl, ◌∙◌}
use Rattle.spec_netflow.specs.Flows.{Flow, packets, of_class}
use Rattle.netflow_laws.proofs.FlowSums.{sums, class_sums, as_many, ones, ones_in}
use Rattle.netflow_laws.proofs.sums.every_packet_is_counted_once.Goals as goal

pub returns-clause-packets : goal.returns-clause-packets
returns-clause-packets c = λ run decided.
    sums (λ (f : Flow). f.told.packets) (λ f p alike. refl) (packets run decided) ∙ as_many (packets run decided) (ones run decided)

pub returns-clause-class_packets : goal.returns-clause-class_packets
returns-clause-class_packets c = λ run decided class.
    class_sums (λ (f : Flow). f.told.packets) class (λ f p. refl) (packets run decided)
    ∙ as_many (of_class class (packets run decided)) (ones_in run decided class)

pub returns-clause-class_octets : goal.returns-clause-class_octets
returns-clause-class_octets c = λ run decided class. class_sums (λ (f : Flow). f.told.octets) class (λ f p. refl) (packets run decided)
