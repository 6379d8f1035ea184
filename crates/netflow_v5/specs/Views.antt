-- Flows of the code as those of the definitions.
use Rattle.std.specs.Prelude.{◌≡◌, ℕ, ◌+◌, ◌*◌, ◌<◌, ◌==◌, if◌then◌else◌, List, [], ◌∷◌, slice_index}
use Rattle.spec_base.specs.Bytes.{big_endian_at}
use Rattle.spec_keys.specs.Protocols.{icmp_protocol}
use Rattle.spec_frames.specs.declared.layout.L4.{L4}
use Rattle.spec_frames.specs.declared.layout.L4.TheVariants.{None, Tcp, Udp, Icmp, Icmp6}
use Rattle.spec_frames.specs.Key.{port_size}
use Rattle.spec_netflow.specs.Flows as specs
use Rattle.netflow_v5.specs.declared.class.FlowClass.{FlowClass}
use Rattle.netflow_v5.specs.declared.flow.Flow.{Flow}

abbrev pub class_view : FlowClass → List ℕ
class_view c = c.in_port ∷ c.nw_src ∷ c.nw_dst ∷ c.nw_proto ∷ c.nw_tos ∷ c.tp_src ∷ c.tp_dst ∷ []

abbrev pub flow_view : Flow → specs.Flow
flow_view f = record { class = class_view f.class; told = f.told }

-- the two numbers that a transport header begins with: ports, or type and code
abbrev pub source_in : List ℕ → L4 → ℕ
source_in frame None = 0
source_in frame (Tcp at) = big_endian_at port_size frame at
source_in frame (Udp at) = big_endian_at port_size frame at
source_in frame (Icmp at) = slice_index frame at
source_in frame (Icmp6 at) = slice_index frame at

abbrev pub destination_in : List ℕ → L4 → ℕ
destination_in frame None = 0
destination_in frame (Tcp at) = big_endian_at port_size frame (at + port_size)
destination_in frame (Udp at) = big_endian_at port_size frame (at + port_size)
destination_in frame (Icmp at) = slice_index frame (at + 1)
destination_in frame (Icmp6 at) = slice_index frame (at + 1)

-- Type and code of ICMP have 8 bits each.
abbrev pub HasNumbers : FlowClass → Type 0
HasNumbers c = c.nw_proto ≡ icmp_protocol → (c.tp_src < 256) × (c.tp_dst < 256)

abbrev pub told_source : FlowClass → ℕ
told_source c = if c.nw_proto == icmp_protocol then 0 else c.tp_src

abbrev pub told_destination : FlowClass → ℕ
told_destination c = if c.nw_proto == icmp_protocol then c.tp_src * 256 + c.tp_dst else c.tp_dst
