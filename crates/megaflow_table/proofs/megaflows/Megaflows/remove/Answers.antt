use Rattle.std.proofs.Common.{ap, refl, sym, subst, ◌∙◌, ◌==◌, nat_eq}
use Rattle.std.specs.Option.{option_map}
use Rattle.indexmap.specs.IndexMap.{get}
use Rattle.megaflow_table.specs.declared.placed.Placed.{Placed}
use Rattle.megaflow_table.specs.Order.{KeepsHits}
use Rattle.megaflow_table.specs.Subtables.{order_of}
use Rattle.megaflow_table.specs.Entries.{Flows}
use Rattle.megaflow_table.proofs.OrderLaws.{kept_masks}
use Rattle.megaflow_table.proofs.WriteLaws.{not_live, taken}
use Rattle.megaflow_table.proofs.StepLaws.{less_table, less_flows}
use Rattle.megaflow_table.proofs.megaflows.Megaflows.remove.Goals as goal

pub unreachable-requires : goal.unreachable-requires
unreachable-requires c = not_live c.self.inside c.args.number c.args.self.now c.self.view_is c.self.invariant c.requires (sym c.in_default.is ∙ c.swap_remove.ensures.value)

pub invariant_of-self : goal.invariant_of-self
invariant_of-self c =
    less_table c.self.inside _ c.args.number c.in-Some.field-0.entry c.self.invariant (record {
      at = ap (option_map (λ (p : Placed). p.entry)) (sym c.in-Some.ensures.value);
      items = c.remove_live.ensures.items;
      len = c.remove_live.ensures.len;
      capacity = c.remove_live.ensures.capacity;
      entries = λ n. taken (get nat_eq c.self.inside.entries n) (get nat_eq c.swap_remove.new.self n) (c.args.number == n) (c.swap_remove.ensures.updates.0 n);
      entries_room = c.swap_remove.ensures.room.0;
      changes = c.remove_under.ensures.changes;
      subtables_room = c.remove_under.ensures.room;
      used = c.remove_under.ensures.used;
      ranked = c.remove_under.ensures.ranked;
      fresh = refl;
      room = refl;
      limit = refl;
    })

pub returns : goal.returns
returns c =
    let flows = less_flows c.self.inside (record c.self.inside { live = c.remove_live.new.live; entries = c.swap_remove.new.self; subtables = c.remove_under.new.subtables }) c.args.number c.in-Some.field-0.entry c.self.invariant (record {
      at = ap (option_map (λ (p : Placed). p.entry)) (sym c.in-Some.ensures.value);
      items = c.remove_live.ensures.items;
      len = c.remove_live.ensures.len;
      capacity = c.remove_live.ensures.capacity;
      entries = λ n. taken (get nat_eq c.self.inside.entries n) (get nat_eq c.swap_remove.new.self n) (c.args.number == n) (c.swap_remove.ensures.updates.0 n);
      entries_room = c.swap_remove.ensures.room.0;
      changes = c.remove_under.ensures.changes;
      subtables_room = c.remove_under.ensures.room;
      used = c.remove_under.ensures.used;
      ranked = c.remove_under.ensures.ranked;
      fresh = refl;
      room = refl;
      limit = refl;
    }) c.args.self.now c.self.view_is in
    record {
      entries = ap (λ (f : Flows). f.entries) flows;
      hits =
          kept_masks (record c.self.inside { live = c.remove_live.new.live; entries = c.swap_remove.new.self; subtables = c.remove_under.new.subtables }) (invariant_of-self c) c.args.self.now.order
          (subst (λ (f : Flows). KeepsHits f.order (order_of c.remove_under.new.subtables)) c.self.view_is c.remove_under.ensures.hits);
      room = ap (λ (f : Flows). f.room) flows;
      limit = ap (λ (f : Flows). f.limit) flows;
    }

pub remove_live-requires-clause-is_live : goal.remove_live-requires-clause-is_live
remove_live-requires-clause-is_live c = c.self.invariant.consistent.within c.args.number c.in-Some.field-0.entry (ap (option_map (λ (p : Placed). p.entry)) (sym c.in-Some.ensures.value))
