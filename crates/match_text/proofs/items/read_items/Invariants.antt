use Rattle.std.proofs.Common.{◌≡◌, ◌+◌, true, length}
use Rattle.spec_flow_text.specs.Items.{is_separator, words, read_items}
use Rattle.match_text.specs.Views.{sofar_view}
use Rattle.match_text.proofs.items.read_items.Given as goal

-- what the items so far and those to come say is what all of them say
abbrev pub invariant-items : goal.invariant-items
invariant-items l = record {
  so_far : read_items l.word (words is_separator true l.left.at l.left.text.now) (sofar_view l.sofar)
      ≡ read_items l.fn.word (words is_separator true l.fn.stretch.at l.fn.stretch.text.now) (sofar_view l.fn.start);
  ends : l.left.at + length l.left.text.now ≡ l.fn.stretch.at + length l.fn.stretch.text.now;
}

abbrev pub decreases-items : goal.decreases-items
decreases-items l = length l.left.text.now
