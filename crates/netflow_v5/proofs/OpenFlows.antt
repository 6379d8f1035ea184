-- The flow that a packet joins, in the table's own words.
use Rattle.std.proofs.Common.{◌≡◌, ℕ, ◌+◌, ◌<◌, ◌≤◌, true, false, cond, List, [], ◌∷◌, ◌++◌, length, get_or, set, map, Some, None, refl, sym, ap, ◌∙◌, arith}
use Rattle.std.proofs.lemmas.Bool.{leb-true}
use Rattle.std.proofs.lemmas.List.{get_or-map, get_or_default, length-map, map-set, map-append}
use Rattle.std.proofs.lemmas.List.Elements.{All-set}
use Rattle.spec_netflow.specs.declared.flow_record.FlowRecord.{FlowRecord}
use Rattle.spec_netflow.specs.Flows as specs
use Rattle.spec_netflow.specs.Flows.{has_room, joined, with_packet}
use Rattle.netflow_v5.specs.declared.flow.Flow.{Flow}
use Rattle.netflow_v5.specs.Views.{class_view, flow_view}
use Rattle.netflow_v5.specs.Newest.{newest, Newest, IsTable}
use Rattle.netflow_v5.specs.Joined.{with_told, Joins}
use Rattle.netflow_v5.proofs.NewestFlows.{begins, where_it_goes, newest-set}

-- with one more flow
begun : (flows : List Flow) (packet : Flow) → map flow_view flows ++ flow_view packet ∷ [] ≡ map flow_view (flows ++ packet ∷ [])
begun flows packet = sym (map-append flow_view flows (packet ∷ []))

module _ (flows : List Flow) (packet : Flow) where
  abbrev views : List specs.Flow
  views = map flow_view flows

  pub none_open : newest (class_view packet.class) views ≡ None → with_packet views (flow_view packet) ≡ map flow_view (flows ++ packet ∷ [])
  none_open none = begins (flow_view packet) (flow_view packet) views none ∙ begun flows packet

  -- ---- a flow at an index

  module _ (i : ℕ) (lt : i < length flows) (is : newest (class_view packet.class) views ≡ Some i) where
    -- an element is the same at any default
    abbrev at : Flow → Flow
    at d = get_or flows i d

    goes : (d : Flow) → with_packet views (flow_view packet)
        ≡ cond (has_room (flow_view (at d)) (flow_view packet)) (set views i (flow_view (with_told (at d) packet.told))) (views ++ flow_view packet ∷ [])
    goes d =
        let here : get_or views i (flow_view d) ≡ flow_view (at d) = get_or-map flow_view flows i d (flow_view d) lt in
        let all = where_it_goes (flow_view packet) (flow_view d) views i is in
        rw here at all

    pub joins : (d : Flow) → has_room (flow_view (at d)) (flow_view packet) ≡ true → Joins flows packet i
    joins d free = record {
      within = lt;
      room = λ y there.
          let sum : (at d).told.octets + packet.told.octets ≤ 4294967295 = leb-true ((at d).told.octets + packet.told.octets) 4294967295 free in
          rw (same y there) (omega (arith, sum));
      joined = λ y there.
          rw (same y there) (goes d ∙ ap (λ t. cond t (set views i (flow_view (with_told (at d) packet.told))) (views ++ flow_view packet ∷ [])) free
          ∙ sym (map-set flow_view flows i (with_told (at d) packet.told)));
    }
      where
        same : (y : Flow) → y ≡ get_or flows i y → y ≡ at d
        same y there = there ∙ get_or_default flows i y d lt

    pub full : (d : Flow) → has_room (flow_view (at d)) (flow_view packet) ≡ false
        → with_packet views (flow_view packet) ≡ map flow_view (flows ++ packet ∷ [])
    full d closed = goes d ∙ ap (λ t. cond t (set views i (flow_view (with_told (at d) packet.told))) (views ++ flow_view packet ∷ [])) closed ∙ begun flows packet

-- a table stays one
pub table_joined : (flows : List Flow) (index : Newest) (packet : Flow) (i : ℕ) (x : Flow) → IsTable flows index → i < length flows → x ≡ get_or flows i x
    → packet.told.packets ≤ packet.told.octets → IsTable (set flows i (with_told x packet.told)) index
table_joined flows index packet i x table lt here some =
    let views = map flow_view flows in
    let at : get_or views i (flow_view x) ≡ flow_view x = get_or-map flow_view flows i x (flow_view x) lt ∙ ap flow_view (sym here) in
    let long : i < length views = let l = length-map flows flow_view in omega (arith, lt, l) in
    let few : x.told.packets ≤ x.told.octets = rw (here) (table.few i x lt) in
    record {
      newest = λ class.
          let kept = newest-set (class_view class) views i (flow_view x) (joined x.told packet.told) long in
          table.newest class ∙ sym (ap (newest (class_view class)) (map-set flow_view flows i (with_told x packet.told)) ∙ (rw at at kept));
      few = All-set (λ (f : Flow). f.told.packets ≤ f.told.octets) flows i (with_told x packet.told) (omega (arith, few, some)) table.few;
    }

pub told_views : (flows : List Flow) → map (λ (f : Flow). f.told) flows ≡ map (λ (f : specs.Flow). f.told) (map flow_view flows)
told_views [] = refl
told_views (f ∷ flows) = ap (λ (rs : List FlowRecord). f.told ∷ rs) (told_views flows)
