use Rattle.std.proofs.Common.{◌≡◌, ◌+◌, length, take, vec_capacity}
use Rattle.std.specs.Prelude.{count_by}
use Rattle.rule_tables.specs.Stored.{acts_on, signatures_in}
use Rattle.rule_tables.proofs.GivingSteps.{IsDoneTo}
use Rattle.rule_tables.proofs.givings.give_to_each.Given as goal

abbrev pub invariant-rules : goal.invariant-rules
invariant-rules l = record {
  place : l.place ≡ l.stored-index;
  signed : l.signatures ≡ signatures_in l.rules;
  done : IsDoneTo (λ i. acts_on l.edit) l.modification l.fn.givings.items l.fn.rules l.stored-index l.givings.items l.rules;
  length : length l.givings.items ≡ length l.fn.givings.items + count_by (acts_on l.edit) (take l.stored-index l.fn.rules);
  capacity : vec_capacity l.givings ≡ vec_capacity l.fn.givings;
}
