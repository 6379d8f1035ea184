-- The flow that a packet joins.
use Rattle.std.specs.Prelude.{◌≡◌, ℕ, ◌+◌, ◌<◌, ◌^◌, ◌++◌, List, [], ◌∷◌, length, map, get_or, set, Option, Some, None}
use Rattle.spec_netflow.specs.declared.flow_record.FlowRecord.{FlowRecord}
use Rattle.spec_netflow.specs.Flows.{joined, with_packet}
use Rattle.netflow_v5.specs.declared.flow.Flow.{Flow}
use Rattle.netflow_v5.specs.Views.{flow_view}

-- a flow with one more packet
abbrev pub with_told : Flow → FlowRecord → Flow
with_told flow packet = record flow { told = joined flow.told packet }

-- A packet joins the flow at this index, which has room for it.
pub record Joins (flows : List Flow) (packet : Flow) (at : ℕ) : Type 0 where
  pub within : at < length flows
  pub room : (flow : Flow) → flow ≡ get_or flows at flow → flow.told.octets + packet.told.octets < 2 ^ 32
  pub joined : (flow : Flow) → flow ≡ get_or flows at flow
      → with_packet (map flow_view flows) (flow_view packet) ≡ map flow_view (set flows at (with_told flow packet.told))

-- It joins the flow at this index, or begins one.
abbrev pub IsOpen : List Flow → Flow → Option ℕ → Type 0
IsOpen flows packet (Some at) = Joins flows packet at
IsOpen flows packet None = with_packet (map flow_view flows) (flow_view packet) ≡ map flow_view (flows ++ packet ∷ [])
