use Rattle.std.proofs.Common.{◌≡◌, ℕ, drop, length}
use Rattle.port_caches.specs.Sums.{total_of}
use Rattle.port_caches.specs.Drops.{ArePayable, entries_after, totals_after}
use Rattle.port_caches.proofs.entries.drop_each.Given as goal

abbrev pub invariant-numbers : goal.invariant-numbers
invariant-numbers l = record {
  entries : entries_after (drop l.number-index l.dropped) l.flows.entries ≡ entries_after l.fn.dropped l.fn.flows.entries;
  totals : (rule : ℕ) → totals_after (drop l.number-index l.dropped) l.flows.entries (total_of l.totals) rule ≡ totals_after l.fn.dropped l.fn.flows.entries (total_of l.fn.totals) rule;
  payable : ArePayable (length l.fn.totals) (drop l.number-index l.dropped) l.flows.entries;
  room : l.flows.room ≡ l.fn.flows.room;
  limit : l.flows.limit ≡ l.fn.flows.limit;
  rules : length l.totals ≡ length l.fn.totals;
}
