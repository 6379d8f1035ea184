use Rattle.std.proofs.Common.{refl, sym, ap, ◌∙◌, arith}
use Rattle.rule_tables.specs.Stored.{signatures_in}
use Rattle.rule_tables.proofs.EndLaws.{ends_moved}
use Rattle.rule_tables.proofs.Logged.{log_moved}
use Rattle.rule_tables.proofs.Placed.{placed_moved}
use Rattle.rule_tables.proofs.Sound.{sound_moved}
use Rattle.rule_tables.proofs.edited.EditedRules.reserve.Goals as goal

pub invariant_of-self : goal.invariant_of-self
invariant_of-self c = record {
  consistent =
      sound_moved c.self.inside.modifications.items c.self.inside.modifications.items c.self.inside.rules.items _ _ _ refl c.in_err-reserve.ensures.items c.self.invariant.consistent;
  log = log_moved c.self.inside.log c.self.inside.modifications.items c.self.inside.modifications.items c.self.inside.rules.items _ refl c.in_err-reserve.ensures.items c.self.invariant.log;
  placed = placed_moved c.self.inside.places c.self.inside.places c.self.inside.rules.items _ refl c.in_err-reserve.ensures.items c.self.invariant.placed;
  signed = c.self.invariant.signed ∙ sym (ap signatures_in c.in_err-reserve.ensures.items);
  ends = ends_moved c.self.inside.ends.items c.self.inside.ends.items c.self.inside.rules.items _ c.self.inside.last refl c.in_err-reserve.ensures.items c.self.invariant.ends;
  room = omega (arith, c.self.invariant.room, c.in_err-reserve.ensures.len);
}

pub invariant_of-self-in_err-reserve-2 : goal.invariant_of-self-in_err-reserve-2
invariant_of-self-in_err-reserve-2 c = record {
  consistent =
      sound_moved c.self.inside.modifications.items c.self.inside.modifications.items c.self.inside.rules.items _ _ _ refl c.in_ok-reserve.ensures.items c.self.invariant.consistent;
  log = log_moved c.self.inside.log c.self.inside.modifications.items c.self.inside.modifications.items c.self.inside.rules.items _ refl c.in_ok-reserve.ensures.items c.self.invariant.log;
  placed =
      placed_moved c.reserve-2.new.self c.reserve-2.new.self c.self.inside.rules.items _ refl c.in_ok-reserve.ensures.items (c.in_err-reserve-2.ensures.placed c.self.inside.rules.items c.self.invariant.placed);
  signed = c.self.invariant.signed ∙ sym (ap signatures_in c.in_ok-reserve.ensures.items);
  ends = ends_moved c.self.inside.ends.items c.self.inside.ends.items c.self.inside.rules.items _ c.self.inside.last refl c.in_ok-reserve.ensures.items c.self.invariant.ends;
  room = omega (arith, c.self.invariant.room, c.in_ok-reserve.ensures.len);
}

pub invariant_of-self-in_err-reserve-3 : goal.invariant_of-self-in_err-reserve-3
invariant_of-self-in_err-reserve-3 c = record {
  consistent =
      sound_moved c.self.inside.modifications.items _ c.self.inside.rules.items _ _ _ c.in_err-reserve-3.ensures.items c.in_ok-reserve.ensures.items c.self.invariant.consistent;
  log = log_moved c.self.inside.log c.self.inside.modifications.items _ c.self.inside.rules.items _ c.in_err-reserve-3.ensures.items c.in_ok-reserve.ensures.items c.self.invariant.log;
  placed =
      placed_moved c.reserve-2.new.self c.reserve-2.new.self c.self.inside.rules.items _ refl c.in_ok-reserve.ensures.items (c.in_ok-reserve-2.ensures.placed c.self.inside.rules.items c.self.invariant.placed);
  signed = c.self.invariant.signed ∙ sym (ap signatures_in c.in_ok-reserve.ensures.items);
  ends = ends_moved c.self.inside.ends.items c.self.inside.ends.items c.self.inside.rules.items _ c.self.inside.last refl c.in_ok-reserve.ensures.items c.self.invariant.ends;
  room = omega (arith, c.self.invariant.room, c.in_ok-reserve.ensures.len);
}

pub invariant_of-self-in_err-reserve-4 : goal.invariant_of-self-in_err-reserve-4
invariant_of-self-in_err-reserve-4 c = record {
  consistent =
      sound_moved c.self.inside.modifications.items _ c.self.inside.rules.items _ _ _ c.in_ok-reserve-3.ensures.items c.in_ok-reserve.ensures.items c.self.invariant.consistent;
  log = log_moved c.self.inside.log c.self.inside.modifications.items _ c.self.inside.rules.items _ c.in_ok-reserve-3.ensures.items c.in_ok-reserve.ensures.items c.self.invariant.log;
  placed =
      placed_moved c.reserve-2.new.self c.reserve-2.new.self c.self.inside.rules.items _ refl c.in_ok-reserve.ensures.items (c.in_ok-reserve-2.ensures.placed c.self.inside.rules.items c.self.invariant.placed);
  signed = c.in_err-reserve-4.ensures.items ∙ c.self.invariant.signed ∙ sym (ap signatures_in c.in_ok-reserve.ensures.items);
  ends = ends_moved c.self.inside.ends.items c.self.inside.ends.items c.self.inside.rules.items _ c.self.inside.last refl c.in_ok-reserve.ensures.items c.self.invariant.ends;
  room = omega (arith, c.self.invariant.room, c.in_ok-reserve.ensures.len);
}

pub invariant_of-self-in_err-reserve-5 : goal.invariant_of-self-in_err-reserve-5
invariant_of-self-in_err-reserve-5 c = record {
  consistent =
      sound_moved c.self.inside.modifications.items _ c.self.inside.rules.items _ _ _ c.in_ok-reserve-3.ensures.items c.in_ok-reserve.ensures.items c.self.invariant.consistent;
  log = log_moved c.self.inside.log c.self.inside.modifications.items _ c.self.inside.rules.items _ c.in_ok-reserve-3.ensures.items c.in_ok-reserve.ensures.items c.self.invariant.log;
  placed =
      placed_moved c.reserve-2.new.self c.reserve-2.new.self c.self.inside.rules.items _ refl c.in_ok-reserve.ensures.items (c.in_ok-reserve-2.ensures.placed c.self.inside.rules.items c.self.invariant.placed);
  signed = c.in_ok-reserve-4.ensures.items ∙ c.self.invariant.signed ∙ sym (ap signatures_in c.in_ok-reserve.ensures.items);
  ends = ends_moved c.self.inside.ends.items _ c.self.inside.rules.items _ c.self.inside.last c.in_err-reserve-5.ensures.items c.in_ok-reserve.ensures.items c.self.invariant.ends;
  room = omega (arith, c.self.invariant.room, c.in_ok-reserve.ensures.len, c.in_err-reserve-5.ensures.capacity);
}

pub invariant_of-self-2 : goal.invariant_of-self-2
invariant_of-self-2 c = record {
  consistent =
      sound_moved c.self.inside.modifications.items _ c.self.inside.rules.items _ _ _ c.in_ok-reserve-3.ensures.items c.in_ok-reserve.ensures.items c.self.invariant.consistent;
  log = log_moved c.self.inside.log c.self.inside.modifications.items _ c.self.inside.rules.items _ c.in_ok-reserve-3.ensures.items c.in_ok-reserve.ensures.items c.self.invariant.log;
  placed =
      placed_moved c.reserve-2.new.self c.reserve-2.new.self c.self.inside.rules.items _ refl c.in_ok-reserve.ensures.items (c.in_ok-reserve-2.ensures.placed c.self.inside.rules.items c.self.invariant.placed);
  signed = c.in_ok-reserve-4.ensures.items ∙ c.self.invariant.signed ∙ sym (ap signatures_in c.in_ok-reserve.ensures.items);
  ends = ends_moved c.self.inside.ends.items _ c.self.inside.rules.items _ c.self.inside.last c.in_ok-reserve-5.ensures.items c.in_ok-reserve.ensures.items c.self.invariant.ends;
  room = omega (arith, c.self.invariant.room, c.in_ok-reserve.ensures.len, c.in_ok-reserve-5.ensures.capacity);
}
