-- Worked rows of the definitions.
use Rattle.std.proofs.Common.{◌≡◌, ℕ, List, [], ◌∷◌, ◌++◌, Option, refl}
use Rattle.std.specs.Prelude.{codes}
use Rattle.edge_io.specs.Shelf.{Told, untouched, asked, wrote, closed, released, kept}
use Rattle.edge_io.specs.ReadAll.{was_read}
use Rattle.edge_io.specs.Opened.{HasOpenedPrefix, HasOpenedUpTo}

-- a file that is created, written in two pieces and closed is kept under its name
two_pieces : (t : Told) →
    closed (wrote (wrote (record t { current = []; last = codes "x" }) (codes "on")) (codes "e"))
    ≡ kept t (codes "x", codes "one")
two_pieces t = refl

-- files are kept in the order of their closing, and what was written last is no longer in use
two_files : (holds : List ℕ → Option (List ℕ)) → kept (kept (untouched holds) (codes "x", codes "1")) (codes "y", [])
    ≡ record (untouched holds) { done = (codes "x", codes "1") ∷ (codes "y", []) ∷ []; last = codes "y" }
two_files holds = refl

-- a file that is opened, read in part and closed leaves its name alone
read_in_part : (t : Told) →
    released (record (record (asked t (codes "b")) { left = codes "text" }) { left = codes "xt" })
    ≡ was_read t (codes "b")
read_in_part t = refl

-- names are kept in the order of asking, each time anew
asked_twice : (t : Told) → (asked (asked t (codes "b")) (codes "b")).opened ≡ (t.opened ++ codes "b" ∷ []) ++ codes "b" ∷ []
asked_twice t = refl

-- of two files the first was opened, alone
first_of_two : (t : Told) → HasOpenedUpTo t (asked t (codes "b")) (codes "b" ∷ codes "a" ∷ []) (codes "b")
first_of_two t = record { earlier = []; later = codes "a" ∷ []; are_names = refl; has_opened = refl }

none_of_two : (t : Told) → t.opened ≡ [] → HasOpenedPrefix t t (codes "b" ∷ codes "a" ∷ [])
none_of_two t none = record { opened = []; left = codes "b" ∷ codes "a" ∷ []; are_names = refl; has_opened = rw none refl }
