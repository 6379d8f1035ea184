use Rattle.std.proofs.Common.{ap, subst, ◌∙◌}
use Rattle.std.specs.Prelude.{slice_get}
use Rattle.std.specs.Map.{values_of}
use Rattle.megaflow_table.specs.Entries.{Flows}
use Rattle.megaflow_table.specs.Order.{HasMasksOf, HasEachOnce, AreFalling}
use Rattle.megaflow_table.proofs.OrderLaws.{has_masks}
use Rattle.megaflow_table.proofs.megaflows.Megaflows.rank.Goals as goal

pub returns : goal.returns
returns c = record {
  place = c.rank_at.ensures.place ∙ ap (λ (f : Flows). slice_get f.order c.args.at) c.self.view_is;
  masks = subst (λ (f : Flows). HasMasksOf f.entries f.order) c.self.view_is (has_masks c.self.inside c.self.invariant);
  once = subst (λ (f : Flows). HasEachOnce f.order) c.self.view_is c.rank_at.ensures.once;
  falling = subst (λ (f : Flows). AreFalling (values_of f.order)) c.self.view_is c.self.invariant.ranked;
}
