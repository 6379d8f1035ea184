use Rattle.std.proofs.Common.{◌≡◌, ℕ, ◌-◌, ◌≤◌, List, length, map, cond, Option, Some, ◌∷◌, ◌++◌, [], sym, ap, ◌∙◌, arith}
use Rattle.std.proofs.lemmas.List.{map-append, length-map}
use Rattle.std.proofs.lemmas.List.Elements.{All-push}
use Rattle.std.specs.Map.{lookup}
use Rattle.netflow_v5.specs.declared.flow.Flow.{Flow}
use Rattle.netflow_v5.specs.declared.class.FlowClass.{FlowClass}
use Rattle.netflow_v5.specs.Views.{class_view, flow_view}
use Rattle.netflow_v5.specs.Newest.{newest, is_same_class}
use Rattle.netflow_v5.proofs.NewestFlows.{same_views, newest-push}
use Rattle.netflow_v5.proofs.flow_table.begin.Goals as goal

pub returns-clause-table : goal.returns-clause-table
returns-clause-table c =
    let flows = c.args.flows.now.items in
    let flow = c.args.flow in
    record {
      newest = λ class.
          let views = map flow_view flows in
          let view = class_view class in
          let same = is_same_class flow.class class in
          let before = ap (λ (es : List (FlowClass × ℕ)). lookup (is_same_class class) es) c.in_ok-reserve.ensures.entries ∙ c.requires.table.newest class in
          let index : c.len.result - 1 ≡ length views = omega (arith, c.len.ensures, c.in_ok-push.ensures.len, length-map flows flow_view) in
          let after : newest view (map flow_view (flows ++ flow ∷ [])) ≡ cond same (Some (length views)) (newest view views) =
          ap (newest view) (map-append flow_view flows (flow ∷ [])) ∙ newest-push view views (flow_view flow)
          ∙ ap (λ t. cond t (Some (length views)) (newest view views)) (same_views flow.class class) in
          c.in-Ok.ensures.updates.0 class
          ∙ ap (λ (o : Option ℕ). cond same (Some (c.len.result - 1)) o) before
          ∙ ap (λ (i : ℕ). cond same (Some i) (newest view views)) index
          ∙ sym after
          ∙ sym (ap (λ (fs : List Flow). newest view (map flow_view fs)) c.in_ok-push.ensures.items);
      few = rw (c.in_ok-push.ensures.items) (All-push (λ (f : Flow). f.told.packets ≤ f.told.octets) flows flow c.requires.table.few c.requires.few);
    }
