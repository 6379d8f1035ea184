-- Which flow of a class is the newest.
use Rattle.std.specs.Prelude.{◌≡◌, ℕ, suc, ◌≤◌, Bool, true, false, ◌&&◌, ◌==◌, List, [], ◌∷◌, map, All, Option, Some, None}
use Rattle.std.specs.declared.hash.FoldHasher.{FoldHasher}
use Rattle.std.specs.declared.hash.BuildHasherDefault.{BuildHasherDefault}
use Rattle.indexmap.specs.IndexMap.{IndexMap, get}
use Rattle.spec_netflow.specs.Flows as specs
use Rattle.spec_netflow.specs.Flows.{is_of}
use Rattle.netflow_v5.specs.declared.class.FlowClass.{FlowClass}
use Rattle.netflow_v5.specs.declared.flow.Flow.{Flow}
use Rattle.netflow_v5.specs.Views.{class_view, flow_view}

-- of a flow and those after it
abbrev pub first_or_later : Bool → Option ℕ → Option ℕ
first_or_later here (Some later) = Some (suc later)
first_or_later true None = Some 0
first_or_later false None = None

-- the index of the newest flow of a class: the last of these
unfoldable pub newest : List ℕ → List specs.Flow → Option ℕ
newest class [] = None
newest class (flow ∷ flows) = first_or_later (is_of class flow) (newest class flows)

-- what the equality of classes tests
abbrev pub is_same_class : FlowClass → FlowClass → Bool
is_same_class a b =
    (a.in_port == b.in_port) && ((a.nw_src == b.nw_src) && ((a.nw_dst == b.nw_dst) && ((a.nw_proto == b.nw_proto)
    && ((a.nw_tos == b.nw_tos) && ((a.tp_src == b.tp_src) && (a.tp_dst == b.tp_dst))))))

-- the newest flow of each class, by its index
abbrev pub Newest : Type 0
Newest = IndexMap FlowClass ℕ (BuildHasherDefault FoldHasher)

-- By each class its newest flow is found. A packet has an octet or more, so that no flow has more packets than octets.
pub record IsTable (flows : List Flow) (found : Newest) : Type 0 where
  pub newest : (class : FlowClass) → get is_same_class found class ≡ newest (class_view class) (map flow_view flows)
  pub few : All (λ (f : Flow). f.told.packets ≤ f.told.octets) flows
