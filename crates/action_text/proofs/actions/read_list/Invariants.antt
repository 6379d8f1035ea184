use Rattle.std.proofs.Common.{◌≡◌, ◌≤◌, [], length}
use Rattle.spec_actions.specs.Sound.{AreSound}
use Rattle.spec_flow_text.specs.Actions.{most_actions, read_items}
use Rattle.field_text.specs.WordViews.{word_view}
use Rattle.action_text.specs.ItemStarts.{items_in, BeginsItem}
use Rattle.action_text.proofs.actions.read_list.Given as goal

abbrev pub invariant-items : goal.invariant-items
invariant-items l = record {
  so_far : read_items l.actions.items (items_in (word_view l.rest)) ≡ read_items [] (items_in (word_view l.text));
  begins : BeginsItem l.rest.text.now;
  few : length l.actions.items ≤ most_actions;
  sound : AreSound l.actions.items;
}

abbrev pub decreases-items : goal.decreases-items
decreases-items l = length l.rest.text.now
