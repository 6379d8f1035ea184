-- Places and checksums of the code, as the definitions have them.
use Rattle.std.specs.Prelude.{List, [], ◌++◌, Option, Some, None}
use Rattle.spec_exec.specs.Places as spec
use Rattle.action_exec.specs.declared.place.Place.{Place}
use Rattle.action_exec.specs.declared.sum.Zero.{Zero}
use Rattle.action_exec.specs.declared.sum.Zero.TheVariants.{Plain, Ones, Absent}
use Rattle.action_exec.specs.declared.sum.Sum.{Sum}
use Rattle.action_exec.specs.declared.sum.Sums.{Sums}
use Rattle.action_exec.specs.Shapes.{size_of, unit_of, words_of}

abbrev pub placed : Place → spec.Place
placed p = record { at = p.at; size = size_of p.shape; unit = unit_of p.shape; word_at = p.word_at; words = words_of p.shape }

abbrev pub zero_of : Zero → spec.Zero
zero_of Plain = spec.Plain
zero_of Ones = spec.Ones
zero_of Absent = spec.Absent

-- one checksum, or none
abbrev pub listed : Option Sum → List spec.Sum
listed None = []
listed (Some s) = spec.sum s.at (zero_of s.zero_says)

abbrev pub all_listed : Sums → List spec.Sum
all_listed sums = listed sums.header ++ listed sums.transport
