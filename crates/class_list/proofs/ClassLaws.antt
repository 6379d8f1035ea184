-- The classes of a difference are lines that tell it.
use Rattle.std.proofs.Common.{◌≡◌, inl, inr, ℕ, zero, suc, ◌+◌, ◌<◌, ◌≤◌, Bool, true, false, List, [], ◌∷◌, length, get_or, take, All, refl, sym, ap, ◌∙◌, subst, arith}
use Rattle.std.specs.Prelude.{if◌then◌else◌}
use Rattle.std.proofs.lemmas.List.Elements.{All-head, All-tail}
use Rattle.spec_tables.specs.Rules.{Match, is_matched}
use Rattle.spec_xlate.specs.Translation.{Switch}
use Rattle.spec_tools.specs.Classes.{Class, IsFrameKey, IsOf, IsRight, IsTold, IsDifference, one_if, holding, matches_of}
use Rattle.spec_tools.specs.Lines.{Line, IsAsSaid, said_of, matches_in, differing, IsFirst, IsListed}
use Rattle.spec_tools.specs.Lines.Said.{Alike, Differ}
use Rattle.class_list.specs.LineViews.{class_lines}

pub all_differ : (classes : List Class) → differing (class_lines classes) ≡ matches_of classes
all_differ [] = refl
all_differ (c ∷ classes) = ap (λ (ms : List Match). c.matching ∷ ms) (all_differ classes)

one : (key : List ℕ) (m : Match) → is_matched key m ≡ true → one_if (is_matched key m) ≡ 1
one key m h = ap one_if h

-- ---- what is said

module _ (o n : Switch) (key : List ℕ) (frame : IsFrameKey key) where
  -- of a key that some class has
  pub said_inside : (classes : List Class) → All (IsRight o n) classes → 0 < holding key (matches_of classes) → IsAsSaid o n key (said_of (class_lines classes) key)
  said_inside [] right some = absurd (omega arith)
  said_inside (c ∷ classes) right some = at (is_matched key c.matching) refl some (said_inside classes (All-tail (IsRight o n) c classes right))
    where
      own : IsRight o n c
      own = All-head (IsRight o n) c classes right

      at : (t : Bool) → is_matched key c.matching ≡ t → 0 < one_if t + holding key (matches_of classes)
          → (0 < holding key (matches_of classes) → IsAsSaid o n key (said_of (class_lines classes) key))
          → IsAsSaid o n key (if t then Differ c.old c.new else said_of (class_lines classes) key)
      at true e some later =
          let is : IsOf c.matching key = record { frame = frame; matched = e } in
          record { plain = own.plain; old = own.old key is; new = own.new key is; differ = own.differ key is }
      at false e some later = later (let more = some in omega arith)

  -- of one that no class has
  pub said_outside : (classes : List Class) → holding key (matches_of classes) ≡ 0 → said_of (class_lines classes) key ≡ Alike
  said_outside [] none = refl
  said_outside (c ∷ classes) none = at (is_matched key c.matching) none (said_outside classes)
    where
      at : (t : Bool) → one_if t + holding key (matches_of classes) ≡ 0 → (holding key (matches_of classes) ≡ 0 → said_of (class_lines classes) key ≡ Alike)
          → (if t then Differ c.old c.new else said_of (class_lines classes) key) ≡ Alike
      at true none later = absurd (omega (arith, none))
      at false none later = later (let zero_there = none in omega (arith, zero_there))

  told_as : (classes : List Class) → All (IsRight o n) classes → IsTold o n key (holding key (matches_of classes)) → IsAsSaid o n key (said_of (class_lines classes) key)
  told_as classes right (inl once) = said_inside classes right (omega (arith, once))
  told_as classes right (inr none) = subst (IsAsSaid o n key) (sym (said_outside classes none.0)) none.1

-- ---- the first line of a key

-- a class has a frame
some_frame : (o n : Switch) (classes : List Class) (k : ℕ) (d : Line) → All (IsRight o n) classes → k < length (class_lines classes)
    → (key : List ℕ) × IsOf (get_or (class_lines classes) k d).matching key
some_frame o n [] k d right within = absurd (omega arith)
some_frame o n (c ∷ classes) zero d right within = (All-head (IsRight o n) c classes right).some
some_frame o n (c ∷ classes) (suc k) d right within = some_frame o n classes k d (All-tail (IsRight o n) c classes right) (omega arith)

-- a key of a class is in that and in those before it
in_those_before : (key : List ℕ) (classes : List Class) (k : ℕ) (d : Line) → k < length (class_lines classes)
    → is_matched key (get_or (class_lines classes) k d).matching ≡ true → holding key (matches_in (take k (class_lines classes))) + 1 ≤ holding key (matches_of classes)
in_those_before key [] k d within h = absurd (omega arith)
in_those_before key (c ∷ classes) zero d within h = let here = one key c.matching h in omega (arith, here)
in_those_before key (c ∷ classes) (suc k) d within h = let ih = in_those_before key classes k d (omega arith) h in omega (arith, ih)

-- ---- all

no_lines : (classes : List Class) → differing (class_lines classes) ≡ [] → class_lines classes ≡ []
no_lines [] none = refl
no_lines (c ∷ classes) none = absurd (cc none)

module _ (o n : Switch) (ports : List ℕ) (classes : List Class) (d : IsDifference o n ports classes) where
  none_before : (key : List ℕ) (before : ℕ) → IsTold o n key (holding key (matches_of classes)) → before + 1 ≤ holding key (matches_of classes) → before ≡ 0
  none_before key before (inl once) at_most = omega (arith, once, at_most)
  none_before key before (inr none) at_most = let zero_there = none.0 in omega (arith, zero_there, at_most)

  first_class : (k : ℕ) (x : Line) → k < length (class_lines classes) → IsFirst ports (take k (class_lines classes)) (get_or (class_lines classes) k x)
  first_class k x within =
      let some = some_frame o n classes k x d.right within in
      let before = in_those_before some.0 classes k x within some.1.matched in
      record {
        key = some.0;
        is_of = some.1;
        first = λ once. none_before some.0 (holding some.0 (matches_in (take k (class_lines classes)))) (d.told some.0 some.1.frame once) before;
      }

  pub listed_classes : IsListed o n ports (class_lines classes)
  listed_classes = record {
    told = λ key frame once. told_as o n key frame classes d.right (d.told key frame once);
    others = λ key frame none. ap (holding key) (all_differ classes) ∙ d.others key frame none;
    first = λ k x within differ. first_class k x within;
    some = no_lines classes;
  }
