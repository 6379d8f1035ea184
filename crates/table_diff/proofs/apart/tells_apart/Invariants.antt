use Rattle.std.proofs.Common.{◌≡◌, ℕ, ◌<◌, false, get_or}
use Rattle.spec_keys.specs.Keys.{overlap}
use Rattle.ovs_fields.specs.Packed.{numbers, bits}
use Rattle.rule_tables.specs.declared.matching.Match.{Match}
use Rattle.table_diff.proofs.apart.tells_apart.Given as goal

-- the matches so far are told
abbrev pub invariant-matches : goal.invariant-matches
invariant-matches l =
    (k : ℕ) (d : Match) → k < l.matching-index
    → overlap (numbers l.key) (bits l.told) (numbers (get_or l.aside k d).key) (bits (get_or l.aside k d).mask) ≡ false
