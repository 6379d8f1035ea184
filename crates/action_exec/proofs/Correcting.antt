-- The checksums of the code follow as those of the definitions.
use Rattle.std.proofs.Common.{◌≡◌, ℕ, zero, suc, ◌+◌, List, Option, Some, None, refl, ap, ◌∙◌}
use Rattle.spec_base.specs.Bytes.{big_endian_at}
use Rattle.spec_exec.specs.Writing.{with_number}
use Rattle.spec_exec.specs.Places as spec
use Rattle.spec_exec.specs.Rewriting.{after_words, followed, corrected}
use Rattle.action_exec.specs.declared.place.Place.{Place}
use Rattle.action_exec.specs.declared.sum.Sum.{Sum}
use Rattle.action_exec.specs.declared.sum.Sums.{Sums}
use Rattle.action_exec.specs.declared.sum.Zero.{Zero}
use Rattle.action_exec.specs.declared.sum.Zero.TheVariants.{Plain, Ones, Absent}
use Rattle.action_exec.specs.Shapes.{words_of}
use Rattle.action_exec.specs.Placed.{placed, zero_of, listed, all_listed}
use Rattle.action_exec.specs.Following.{frame_words, after_list, followed_list, sum_before, with_sum}

module _ (before : List ℕ) where
  after_list-words : (zero_says : spec.Zero) (count at : ℕ) (now : List ℕ) (sum : ℕ)
      → after_words zero_says count at before now sum ≡ after_list zero_says (frame_words count before at) at now sum
  unfolding after_words after_list frame_words
  after_list-words zero_says zero at now sum = refl
  after_list-words zero_says (suc count) at now sum = after_list-words zero_says count (at + 2) now _

  followed_list-words : (zero_says : Zero) (count at : ℕ) (now : List ℕ) (sum : ℕ)
      → followed (zero_of zero_says) count at before now sum ≡ followed_list (zero_of zero_says) (frame_words count before at) at now sum
  followed_list-words Plain count at now sum = after_list-words spec.Plain count at now sum
  followed_list-words Ones count at now sum = after_list-words spec.Ones count at now sum
  followed_list-words Absent count at now sum = rw after_list-words refl

  module _ (p : Place) where
    -- the words of the place as they were
    abbrev words : List ℕ
    words = frame_words (words_of p.shape) before p.word_at

    abbrev with : Option Sum → List ℕ → List ℕ
    with sum now = with_sum sum (sum_before sum before) words p.word_at now

    one : (sum : Option Sum) (now : List ℕ) → corrected (listed sum) (placed p) before now ≡ with sum now
    unfolding corrected
    one None now = refl
    one (Some s) now =
        ap (with_number 2 now s.at) (followed_list-words s.zero_says (words_of p.shape) p.word_at now (big_endian_at 2 before s.at))

    both : (header transport : Option Sum) (now : List ℕ) → corrected (all_listed (record { header = header; transport = transport })) (placed p) before now ≡ with transport (with header now)
    unfolding corrected
    both None transport now = one transport now
    both (Some s) transport now =
        one transport _ ∙ ap (with transport) (one (Some s) now)

    pub corrected-sums : (sums : Sums) (now : List ℕ) → corrected (all_listed sums) (placed p) before now ≡ with sums.transport (with sums.header now)
    corrected-sums sums now = both sums.header sums.transport now
