use Rattle.std.proofs.Common.{◌≡◌, ◌+◌, ◌≤◌, drop, length}
use Rattle.rule_tables.specs.Edited.{adds_in, modifies_in}
use Rattle.rule_tables.specs.History.{applied, edited_by_all}
use Rattle.rule_tables.proofs.edited.EditedRules.apply_all.Given as goal

abbrev pub invariant-edits : goal.invariant-edits
invariant-edits l = record {
  history : edited_by_all (drop (length l.yielded) l.fn.edits.items) l.self.history ≡ edited_by_all l.fn.edits.items l.initial.self.history;
  count : applied l.self.history + length (drop (length l.yielded) l.fn.edits.items) ≡ applied l.initial.self.history + length l.fn.edits.items;
  states : length l.self.history.states ≡ applied l.self.history + 1;
  adds : adds_in (drop (length l.yielded) l.fn.edits.items) ≤ l.self.adds;
  modifies : modifies_in (drop (length l.yielded) l.fn.edits.items) ≤ l.self.modifies;
}
