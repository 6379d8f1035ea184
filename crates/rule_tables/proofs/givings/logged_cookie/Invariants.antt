use Rattle.std.proofs.Common.{◌≡◌, ℕ, suc, ◌≤◌, length, take}
use Rattle.std.specs.Option.{option_map_or}
use Rattle.rule_tables.specs.Givings.{was_given_at, Leads}
use Rattle.rule_tables.specs.Stored.{cookie_in}
use Rattle.rule_tables.proofs.givings.logged_cookie.Given as goal

abbrev pub invariant-back : goal.invariant-back
invariant-back l =
    (n : ℕ) × (n ≤ length l.modifications) × Leads l.givings (was_given_at l.modifications l.stored) n l.next
    × (cookie_in (take n l.modifications) l.after l.stored ≡ cookie_in l.modifications l.after l.stored)

abbrev pub decreases-back : goal.decreases-back
decreases-back l = option_map_or suc l.next 0
