-- Which keys cubes have, and what is settled of them.
use Rattle.std.proofs.Common.{◌≡◌, ◌⊎◌, inl, inr, ℕ, zero, suc, ◌+◌, ◌<◌, Bool, true, false, if◌then◌else◌, List, [], ◌∷◌, ◌++◌, refl, sym, ap, ◌∙◌, subst, arith}
use Rattle.spec_tables.specs.Rules.{Match, is_matched}
use Rattle.spec_tools.specs.Classes.{one_if, holding}
use Rattle.spec_tools.specs.Lines.{Said, Line, said_of, differing, differs}
use Rattle.spec_tools.specs.Lines.Said.{Alike, Differ}
use Rattle.ovs_fields.specs.Packed.{numbers}
use Rattle.table_diff.specs.declared.cube.Cube.{Cube}
use Rattle.table_diff.specs.Cubes.{cube_view, cubes_view, IsSplit}
use Rattle.table_diff.proofs.HoldLaws.{cube-push}
use Rattle.class_list.specs.Agreeing.{IsEven, SayTheSame, IsSettled, HaveTheSame}

pub holding-append : (key : List ℕ) (xs ys : List Match) → holding key (xs ++ ys) ≡ holding key xs + holding key ys
holding-append key [] ys = omega arith
holding-append key (x ∷ xs) ys = let ih = holding-append key xs ys in omega arith

-- of a key that no line has which tells a difference, it is said that both do the same
pub unlisted : (lines : List Line) (key : List ℕ) → holding key (differing lines) ≡ 0 → said_of lines key ≡ Alike
unlisted [] key none = refl
unlisted (l ∷ lines) key none = at l.said (is_matched key l.matching) refl none (unlisted lines key)
  where
    at : (s : Said) (t : Bool) → is_matched key l.matching ≡ t → holding key (if differs s then l.matching ∷ differing lines else differing lines) ≡ 0
        → (holding key (differing lines) ≡ 0 → said_of lines key ≡ Alike) → (if t then s else said_of lines key) ≡ Alike
    at Alike true e none later = refl
    at Alike false e none later = later none
    at (Differ old new) true e none later = absurd (let one : one_if (is_matched key l.matching) ≡ 1 = ap one_if e in omega (arith, one, none))
    at (Differ old new) false e none later = later (omega (arith, none))

-- ---- cubes

-- both halves of a cube have what it had
pub halved : (work : List Cube) (cube : Cube) (work' : List Cube) (half : Cube) → IsSplit work cube work' half
    → HaveTheSame (cubes_view (work ++ cube ∷ [])) (cubes_view (work' ++ half ∷ []))
halved work cube work' half split key is = cube-push key work' half ∙ split.each key is ∙ sym (cube-push key work cube)

-- ---- what is settled

module _ (a b : List Line) where
  pub settled_none : (first : List Match) → IsSettled a b first first
  settled_none first key is some = inl some

  pub settled_split : (first left : List Match) → HaveTheSame first left → IsSettled a b first left
  settled_split first left same key is some = inl (subst (λ (n : ℕ). 0 < n) (sym (same key is)) some)

  pub settled_then : (first mid left : List Match) → IsSettled a b first mid → IsSettled a b mid left → IsSettled a b first left
  settled_then first mid left before after key is some = at (before key is some)
    where
      at : (0 < holding key mid) ⊎ (said_of a key ≡ said_of b key) → (0 < holding key left) ⊎ (said_of a key ≡ said_of b key)
      at (inl more) = after key is more
      at (inr same) = inr same

  pub settled_cube : (work : List Cube) (cube : Cube) → IsEven a (cube_view cube) → IsEven b (cube_view cube)
      → said_of a (numbers cube.key) ≡ said_of b (numbers cube.key) → IsSettled a b (cubes_view (work ++ cube ∷ [])) (cubes_view work)
  settled_cube work cube of_a of_b same key is some = at (is_matched key (cube_view cube)) refl
    where
      at : (t : Bool) → is_matched key (cube_view cube) ≡ t → (0 < holding key (cubes_view work)) ⊎ (said_of a key ≡ said_of b key)
      at true e = inr (of_a key e ∙ same ∙ sym (of_b key e))
      at false e = inl (let pushed = cube-push key work cube in let none : one_if (is_matched key (cube_view cube)) ≡ 0 = ap one_if e in omega (arith, some, pushed, none))

  -- where nothing is left of what tells a difference, both say the same of all
  pub settled_all : (first : List Match) → first ≡ differing b ++ differing a → IsSettled a b first [] → SayTheSame a b
  settled_all first is_all settled key is = at (holding key first) refl
    where
      sum : holding key first ≡ holding key (differing b) + holding key (differing a)
      sum = ap (holding key) is_all ∙ holding-append key (differing b) (differing a)

      none_left : (0 < holding key []) ⊎ (said_of a key ≡ said_of b key) → said_of a key ≡ said_of b key
      none_left (inl some) = absurd (omega (arith, some))
      none_left (inr same) = same

      at : (n : ℕ) → holding key first ≡ n → said_of a key ≡ said_of b key
      at zero e = unlisted a key (omega (arith, sum, e)) ∙ sym (unlisted b key (omega (arith, sum, e)))
      at (suc n) e = none_left (settled key is (omega (arith, e)))

-- ---- the lines that tell a difference

pub differing-cons : (l : Line) (lines : List Line) → differing (l ∷ lines) ≡ differing (l ∷ []) ++ differing lines
differing-cons l lines = at l.said
  where
    at : (s : Said) → (if differs s then l.matching ∷ differing lines else differing lines) ≡ (if differs s then l.matching ∷ [] else []) ++ differing lines
    at Alike = refl
    at (Differ old new) = refl
