-- The stages of a lookup (NSDI 2015, section 5.3), and the part of a mask that each reaches. Where the stages end is
-- this profile's.
use Rattle.std.specs.Prelude.{ℕ, nat_le, if◌then◌else◌, List, [], ◌∷◌}
use Rattle.spec_keys.specs.Fields.{stages}

-- the last of the fields that each stage but the last one reaches: the packet's metadata, Ethernet and IP
abbrev pub metadata_stage : ℕ
metadata_stage = 0

abbrev pub ethernet_stage : ℕ
ethernet_stage = 1

abbrev pub network_stage : ℕ
network_stage = 2

-- the numbers of a mask in the fields whose stage, listed in the same order, is this one or an earlier one, and else 0
unfoldable pub through : ℕ → List ℕ → List ℕ → List ℕ
through stage list [] = []
through stage [] (b ∷ bits) = []
through stage (s ∷ list) (b ∷ bits) = (if nat_le s stage then b else 0) ∷ through stage list bits

-- the bits of a mask in the fields of this stage and those before
abbrev pub staged : ℕ → List ℕ → List ℕ
staged stage mask = through stage stages mask
