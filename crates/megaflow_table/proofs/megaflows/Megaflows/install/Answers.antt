use Rattle.std.proofs.Common.{ap, ◌==◌, nat_eq, None, refl, subst}
use Rattle.indexmap.specs.IndexMap.{get}
use Rattle.ovs_fields.specs.Packed.{bits}
use Rattle.megaflow_table.specs.Order.{AddsMask}
use Rattle.megaflow_table.specs.Subtables.{order_of}
use Rattle.megaflow_table.specs.Entries.{Flows}
use Rattle.megaflow_table.proofs.WriteLaws.{looked}
use Rattle.megaflow_table.proofs.StepLaws.{more_table, more_flows, above_from, free_from}
use Rattle.megaflow_table.proofs.megaflows.Megaflows.install.Goals as goal

pub invariant_of-self : goal.invariant_of-self
invariant_of-self c =
    more_table c.self.inside _ c.args.entry c.self.invariant
    (record {
      items = c.in-Ok-push.ensures.items;
      entries = λ n. looked (get nat_eq c.self.inside.entries n) (get nat_eq c.insert.new.self n) (record { entry = c.args.entry; place = c.insert_under-place.result }) (c.args.entry.number == n) (c.in-Ok.ensures.updates.0 n);
      changes = c.insert_under-place.ensures.changes;
      fresh = c.insert_under-place.ensures.fresh;
      order = c.insert_under-place.ensures.order;
      masked = c.insert_under-place.ensures.masked;
      ranked = c.insert_under-place.ensures.ranked;
      room = refl;
      limit = refl;
    })
    (above_from c.self.inside c.self.invariant c.args.self.now c.self.view_is c.args.entry c.requires.new)
    (free_from c.self.inside c.self.invariant c.args.self.now c.self.view_is c.args.entry c.requires.free)

pub returns : goal.returns
returns c =
    let flows = more_flows c.self.inside (record c.self.inside { live = c.push.new.self; entries = c.insert.new.self; subtables = c.insert_under-place.new.subtables; room = None; fresh = c.insert_under-place.new.fresh }) c.args.entry c.self.invariant
    (record {
      items = c.in-Ok-push.ensures.items;
      entries = λ n. looked (get nat_eq c.self.inside.entries n) (get nat_eq c.insert.new.self n) (record { entry = c.args.entry; place = c.insert_under-place.result }) (c.args.entry.number == n) (c.in-Ok.ensures.updates.0 n);
      changes = c.insert_under-place.ensures.changes;
      fresh = c.insert_under-place.ensures.fresh;
      order = c.insert_under-place.ensures.order;
      masked = c.insert_under-place.ensures.masked;
      ranked = c.insert_under-place.ensures.ranked;
      room = refl;
      limit = refl;
    })
    (above_from c.self.inside c.self.invariant c.args.self.now c.self.view_is c.args.entry c.requires.new)
    (free_from c.self.inside c.self.invariant c.args.self.now c.self.view_is c.args.entry c.requires.free)
    c.args.self.now c.self.view_is in
    record { entries = ap (λ (f : Flows). f.entries) flows; hits = subst (λ (f : Flows). AddsMask (bits c.args.entry.mask) f.order (order_of c.insert_under-place.new.subtables)) c.self.view_is c.insert_under-place.ensures.order; room = ap (λ (f : Flows). f.room) flows; limit = ap (λ (f : Flows). f.limit) flows }
