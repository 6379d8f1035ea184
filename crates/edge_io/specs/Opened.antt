-- Which files of a list were opened: asked for, to be read.
use Rattle.std.specs.Prelude.{◌≡◌, ℕ, List, [], ◌∷◌, ◌++◌}
use Rattle.edge_io.specs.Shelf.{Told}

-- After those before, the files of these names were opened, in this order.
abbrev pub HasOpened : Told → Told → List (List ℕ) → Type 0
HasOpened before now names = now.opened ≡ before.opened ++ names

-- A prefix of these was.
pub record HasOpenedPrefix (before now : Told) (names : List (List ℕ)) : Type 0 where
  pub opened : List (List ℕ)
  pub left : List (List ℕ)
  pub are_names : names ≡ opened ++ left
  pub has_opened : HasOpened before now opened

-- Those up to this one were, and this one too.
pub record HasOpenedUpTo (before now : Told) (names : List (List ℕ)) (name : List ℕ) : Type 0 where
  pub earlier : List (List ℕ)
  pub later : List (List ℕ)
  pub are_names : names ≡ earlier ++ name ∷ later
  pub has_opened : HasOpened before now (earlier ++ name ∷ [])
