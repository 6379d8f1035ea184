use Rattle.std.proofs.Common.{◌≡◌, []}
use Rattle.spec_flow_text.specs.Actions.{up_to_end}
use Rattle.action_text.specs.Brackets.{innermost_first}
use Rattle.action_text.proofs.ItemBytes.{item_from, open_at}
use Rattle.action_text.proofs.brackets.item_end.Given as goal

abbrev pub invariant-bytes : goal.invariant-bytes
invariant-bytes l = record {
  item : item_from (innermost_first l.stack.items) l.place l.text ≡ up_to_end [] l.text;
  brackets : innermost_first l.stack.items ≡ open_at l.place l.text;
}
