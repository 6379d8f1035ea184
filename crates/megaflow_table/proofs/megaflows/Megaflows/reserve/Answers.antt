use Rattle.std.proofs.Common.{refl, ap, ◌∙◌, arith}
use Rattle.megaflow_table.specs.Subtables.{ranks}
use Rattle.megaflow_table.proofs.SubtableLaws.{same_subtables, kept_whole, joined_subtables}
use Rattle.megaflow_table.proofs.StepLaws.{grown_table, ready_table}
use Rattle.megaflow_table.proofs.megaflows.Megaflows.reserve.Goals as goal

pub invariant_of-self : goal.invariant_of-self
invariant_of-self c =
    grown_table c.self.inside _ c.self.invariant (record {
      items = c.reserve.ensures.items;
      len = c.reserve.ensures.len;
      capacity = c.reserve.ensures.capacity;
      entries = refl;
      entries_room = omega arith;
      subtables = same_subtables c.self.inside.subtables c.self.inside.subtables refl;
      order = refl;
      fresh = c.self.invariant.fresh;
    }) refl refl

pub invariant_of-self-in_err-reserve-2 : goal.invariant_of-self-in_err-reserve-2
invariant_of-self-in_err-reserve-2 c =
    grown_table c.self.inside _ c.self.invariant (record {
      items = c.reserve.ensures.items;
      len = c.reserve.ensures.len;
      capacity = c.reserve.ensures.capacity;
      entries = c.reserve-2.ensures.entries;
      entries_room = c.reserve-2.ensures.room.0;
      subtables = same_subtables c.self.inside.subtables c.self.inside.subtables refl;
      order = refl;
      fresh = c.self.invariant.fresh;
    }) refl refl

pub invariant_of-self-in_err-reserve-3 : goal.invariant_of-self-in_err-reserve-3
invariant_of-self-in_err-reserve-3 c =
    grown_table c.self.inside _ c.self.invariant (record {
      items = c.reserve.ensures.items;
      len = c.reserve.ensures.len;
      capacity = c.reserve.ensures.capacity;
      entries = c.reserve-2.ensures.entries;
      entries_room = c.reserve-2.ensures.room.0;
      subtables = kept_whole c.self.inside.subtables c.reserve-3.new.self c.reserve-3.ensures.entries c.reserve-3.ensures.room.0;
      order = ap ranks c.reserve-3.ensures.entries;
      fresh = c.self.invariant.fresh;
    }) refl refl

pub invariant_of-self-in_err-reserve_under : goal.invariant_of-self-in_err-reserve_under
invariant_of-self-in_err-reserve_under c =
    grown_table c.self.inside _ c.self.invariant (record {
      items = c.reserve.ensures.items;
      len = c.reserve.ensures.len;
      capacity = c.reserve.ensures.capacity;
      entries = c.reserve-2.ensures.entries;
      entries_room = c.reserve-2.ensures.room.0;
      subtables = joined_subtables c.self.inside.subtables c.reserve-3.new.self c.reserve_under.new.subtables (kept_whole c.self.inside.subtables c.reserve-3.new.self c.reserve-3.ensures.entries c.reserve-3.ensures.room.0) c.reserve_under.ensures.keeps;
      order = c.reserve_under.ensures.order ∙ ap ranks c.reserve-3.ensures.entries;
      fresh = c.self.invariant.fresh;
    }) refl refl

pub invariant_of-self-in_err-reserve_fresh : goal.invariant_of-self-in_err-reserve_fresh
invariant_of-self-in_err-reserve_fresh c =
    grown_table c.self.inside _ c.self.invariant (record {
      items = c.reserve.ensures.items;
      len = c.reserve.ensures.len;
      capacity = c.reserve.ensures.capacity;
      entries = c.reserve-2.ensures.entries;
      entries_room = c.reserve-2.ensures.room.0;
      subtables = joined_subtables c.self.inside.subtables c.reserve-3.new.self c.reserve_under.new.subtables (kept_whole c.self.inside.subtables c.reserve-3.new.self c.reserve-3.ensures.entries c.reserve-3.ensures.room.0) c.reserve_under.ensures.keeps;
      order = c.reserve_under.ensures.order ∙ ap ranks c.reserve-3.ensures.entries;
      fresh = c.reserve_fresh.ensures.fresh;
    }) refl c.in_err-reserve_fresh.ensures.err

pub invariant_of-self-2 : goal.invariant_of-self-2
invariant_of-self-2 c =
    ready_table c.self.inside _ c.self.invariant (record {
      items = c.reserve.ensures.items;
      len = c.reserve.ensures.len;
      capacity = c.reserve.ensures.capacity;
      entries = c.reserve-2.ensures.entries;
      entries_room = c.reserve-2.ensures.room.0;
      subtables = joined_subtables c.self.inside.subtables c.reserve-3.new.self c.reserve_under.new.subtables (kept_whole c.self.inside.subtables c.reserve-3.new.self c.reserve-3.ensures.entries c.reserve-3.ensures.room.0) c.reserve_under.ensures.keeps;
      order = c.reserve_under.ensures.order ∙ ap ranks c.reserve-3.ensures.entries;
      fresh = c.reserve_fresh.ensures.fresh;
    }) c.args.mask.now refl
    (omega (arith, c.in_ok-reserve-2.ensures.ok)) (omega (arith, c.in_ok-reserve.ensures.ok)) (omega (arith, c.in_ok-reserve-3.ensures.ok, c.reserve_under.ensures.keeps.room.subtables))
    c.in_ok-reserve_under.ensures.ok c.in_ok-reserve_fresh.ensures.ok
