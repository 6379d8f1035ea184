-- What is known of groups of an IPv6 address that have been read.
use Rattle.std.specs.Prelude.{ℕ, ◌<◌, ◌≤◌, ◌^◌, List, length}
use Rattle.text_numbers.specs.declared.addresses.Groups.{Groups}
use Rattle.spec_flow_text.specs.Addresses.{number_of_groups}

-- how many groups there are, and their number
abbrev pub counted : List ℕ → Groups
counted all = record { count = length all; number = number_of_groups all }

-- There are at most so many, and their number fits.
pub record AreWithin (room : ℕ) (groups : Groups) : Type 0 where
  pub few : groups.count ≤ room
  pub fits : groups.number < 65536 ^ groups.count
