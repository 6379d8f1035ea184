-- Totals that are the same rule by rule stay so as the same visits are credited.
use Rattle.std.proofs.Common.{◌≡◌, ℕ, ◌*◌, List, [], ◌∷◌, ap}
use Rattle.std.specs.Prelude.{◌==◌, count_by}
use Rattle.spec_board.specs.State.{Entry, Total}
use Rattle.spec_board.specs.Effects.{credited, credited_by}
use Rattle.port_caches.proofs.stats.Credits.{with_more}

pub same_totals-credited : (visits : List ℕ) (packets bytes : ℕ) (a b : ℕ → Total) → ((rule : ℕ) → a rule ≡ b rule)
    → (rule : ℕ) → credited visits packets bytes a rule ≡ credited visits packets bytes b rule
same_totals-credited visits packets bytes a b alike rule =
    let times = count_by (λ (r : ℕ). r == rule) visits in
    ap (with_more (times * packets) (times * bytes)) (alike rule)

pub same_totals-credited_by : (entries : List Entry) (a b : ℕ → Total) → ((rule : ℕ) → a rule ≡ b rule)
    → (rule : ℕ) → credited_by entries a rule ≡ credited_by entries b rule
unfolding credited_by
same_totals-credited_by [] a b alike rule = alike rule
same_totals-credited_by (e ∷ entries) a b alike rule =
    same_totals-credited_by entries (credited e.visits e.owed_packets e.owed_bytes a) (credited e.visits e.owed_packets e.owed_bytes b)
    (same_totals-credited e.visits e.owed_packets e.owed_bytes a b alike) rule
