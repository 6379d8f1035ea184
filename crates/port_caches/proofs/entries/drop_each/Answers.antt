use Rattle.std.proofs.Common.{ℕ, ◌+◌, List, drop, get_or, length, sym, ap, ap₂, subst, ◌∙◌}
use Rattle.spec_board.specs.State.{Total}
use Rattle.port_caches.specs.Sums.{IsCountable, total_of}
use Rattle.megaflow_table.specs.declared.entry.Entry.{Entry}
use Rattle.megaflow_table.specs.Entries.{ForEntry}
use Rattle.port_caches.specs.Steps.{AreRules}
use Rattle.port_caches.specs.Drops.{ArePayable, entries_after, totals_after}
use Rattle.port_caches.proofs.Drops.{payable_next, entries_next, totals_next, countable_next}
use Rattle.port_caches.proofs.entries.drop_each.Goals as goal

pub credit_owed-requires-clause-live : goal.credit_owed-requires-clause-live
credit_owed-requires-clause-live c =
    let l = c.numbers in
    subst (λ (rules : ℕ). ForEntry (get_or c.args.dropped.now l.number-index 0) l.flows.entries (λ e. AreRules rules e.visits)) (sym l.invariant.rules)
    (payable_next c.args.dropped.now l.number-index c.numbers-test.true l.flows.entries (length c.args.totals.now) l.invariant.payable).0

pub credit_owed-requires-clause-countable : goal.credit_owed-requires-clause-countable
credit_owed-requires-clause-countable c rule =
    let l = c.numbers in
    countable_next c.args.dropped.now l.number-index c.numbers-test.true l.flows.entries (total_of l.totals) rule
    (subst IsCountable (sym (l.invariant.totals rule)) (c.requires.countable rule))

pub numbers-preserved : goal.numbers-preserved
numbers-preserved c =
    let l = c.numbers in
    let rest = drop (l.number-index + 1) c.args.dropped.now in
    record {
      entries = ap (entries_after rest) c.remove.ensures.entries ∙ sym (entries_next c.args.dropped.now l.number-index c.numbers-test.true l.flows.entries) ∙ l.invariant.entries;
      totals = λ rule.
          ap₂ (λ (es : List Entry) (ts : ℕ → Total). totals_after rest es ts rule) c.remove.ensures.entries (λ j r. c.credit_owed.ensures.credited r j)
          ∙ sym (ap (λ (ts : ℕ → Total). ts rule) (totals_next c.args.dropped.now l.number-index c.numbers-test.true l.flows.entries (total_of l.totals)))
          ∙ l.invariant.totals rule;
      payable = subst (ArePayable (length c.args.totals.now) rest) (sym c.remove.ensures.entries)
          (payable_next c.args.dropped.now l.number-index c.numbers-test.true l.flows.entries (length c.args.totals.now) l.invariant.payable).1;
      room = c.remove.ensures.room ∙ l.invariant.room;
      limit = c.remove.ensures.limit ∙ l.invariant.limit;
      rules = c.credit_owed.ensures.rules ∙ l.invariant.rules;
    }
