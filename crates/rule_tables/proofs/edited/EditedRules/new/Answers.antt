use Rattle.std.proofs.Common.{[], refl, sym, ap, ◌∙◌, arith}
use Rattle.rule_tables.specs.Stored.{signatures_in}
use Rattle.rule_tables.proofs.EndLaws.{ends_at_first}
use Rattle.rule_tables.proofs.Logged.{log_at_first}
use Rattle.rule_tables.proofs.Placed.{placed_moved}
use Rattle.rule_tables.proofs.Sound.{sound_at_first}
use Rattle.rule_tables.proofs.edited.EditedRules.new.Goals as goal

pub invariant_of-result : goal.invariant_of-result
invariant_of-result c =
    record {
      consistent = sound_at_first _ _ c.new-2.ensures.items c.new.ensures.items;
      log = log_at_first _ _ _ c.new-3.ensures.len c.new-3.ensures.modifications c.new.ensures.items;
      placed = placed_moved c.new-4.result c.new-4.result [] _ refl c.new.ensures.items c.new-4.ensures;
      signed = c.new-6.ensures.items ∙ sym (ap signatures_in c.new.ensures.items);
      ends = ends_at_first _ _ 0 c.new-5.ensures.items c.new.ensures.items;
      room = omega (arith, c.new.ensures.len);
    }
