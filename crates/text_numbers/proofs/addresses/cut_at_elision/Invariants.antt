use Rattle.std.proofs.Common.{◌≡◌, ◌-◌, length}
use Rattle.spec_flow_text.specs.Addresses.{split_at_elision}
use Rattle.text_numbers.proofs.Elision.{found_from}
use Rattle.text_numbers.proofs.addresses.cut_at_elision.Given as goal

-- none stands before the place
abbrev pub invariant-places : goal.invariant-places
invariant-places l = found_from l.at l.text ≡ split_at_elision l.text

abbrev pub decreases-places : goal.decreases-places
decreases-places l = length l.text - l.at
