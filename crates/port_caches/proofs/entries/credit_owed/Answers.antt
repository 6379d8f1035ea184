use Rattle.std.proofs.Common.{ℕ, List, Option, sym, subst}
use Rattle.spec_board.specs.Effects.{credited}
use Rattle.port_caches.specs.Sums.{IsCountable, total_of}
use Rattle.megaflow_table.specs.declared.entry.Entry.{Entry}
use Rattle.port_caches.specs.Drops.{credited_with}
use Rattle.port_caches.proofs.entries.credit_owed.Goals as goal

pub credit-requires-clause-countable : goal.credit-requires-clause-countable
credit-requires-clause-countable c rule =
    let e = c.in-Some.entry.now in
    subst (λ (visits : List ℕ). IsCountable (credited visits e.owed_packets e.owed_bytes (total_of c.args.totals.now) rule)) (sym c.as_slice.ensures)
    (subst (λ (o : Option Entry). IsCountable (credited_with o (total_of c.args.totals.now) rule)) (sym c.in-Some.ensures) (c.requires.countable rule))
