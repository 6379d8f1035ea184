-- Checksums that follow words of which the numbers before are known.
use Rattle.std.specs.Prelude.{ℕ, zero, suc, ◌+◌, ◌*◌, ◌≤◌, ◌==◌, if◌then◌else◌, List, [], ◌∷◌, Option, Some, None}
use Rattle.spec_base.specs.Bytes.{big_endian_at}
use Rattle.spec_exec.specs.Writing.{with_number}
use Rattle.spec_exec.specs.Places as spec
use Rattle.spec_exec.specs.Rewriting.{after_word}
use Rattle.action_exec.specs.declared.sum.Sum.{Sum}
use Rattle.action_exec.specs.declared.sum.Sums.{Sums}
use Rattle.action_exec.specs.Placed.{zero_of}

-- so many words of a frame from an offset on
unfoldable pub frame_words : ℕ → List ℕ → ℕ → List ℕ
frame_words zero frame at = []
frame_words (suc count) frame at = big_endian_at 2 frame at ∷ frame_words count frame (at + 2)

-- a checksum after the words at an offset, which were these, are those of a frame
unfoldable pub after_list : spec.Zero → List ℕ → ℕ → List ℕ → ℕ → ℕ
after_list zero_says [] at now sum = sum
after_list zero_says (from ∷ words) at now sum =
    after_list zero_says words (at + 2) now (after_word zero_says sum from (big_endian_at 2 now at))

-- the same, where 0 may say that there is none
abbrev pub followed_list : spec.Zero → List ℕ → ℕ → List ℕ → ℕ → ℕ
followed_list spec.Absent words at now sum = if sum == 0 then 0 else after_list spec.Absent words at now sum
followed_list zero_says words at now sum = after_list zero_says words at now sum

-- a place and its words stand before an offset
pub record PlaceIsBefore (end : ℕ) (p : spec.Place) : Type 0 where
  pub bytes : p.at + p.size ≤ end
  pub words : p.word_at + 2 * p.words ≤ end

-- a checksum stands before an offset
abbrev pub SumIsBefore : ℕ → Option Sum → Type 0
SumIsBefore end None = Unit {0}
SumIsBefore end (Some s) = s.at + 2 ≤ end

pub record SumsAreBefore (end : ℕ) (sums : Sums) : Type 0 where
  pub header : SumIsBefore end sums.header
  pub transport : SumIsBefore end sums.transport

-- the number of a checksum, if there is one
abbrev pub sum_before : Option Sum → List ℕ → ℕ
sum_before None frame = 0
sum_before (Some s) frame = big_endian_at 2 frame s.at

-- a frame in which a checksum, which was a number, follows the words at an offset, which were these
abbrev pub with_sum : Option Sum → ℕ → List ℕ → ℕ → List ℕ → List ℕ
with_sum None before words at frame = frame
with_sum (Some s) before words at frame = with_number 2 frame s.at (followed_list (zero_of s.zero_says) words at frame before)
