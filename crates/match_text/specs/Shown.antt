-- The items of a match as they are printed, as the definitions see them.
use Rattle.std.specs.Prelude.{ℕ, Bool, true, false, List, [], ◌∷◌, ◌++◌, Option, Some, None}
use Rattle.spec_flow_text.specs.Characters.{comma}
use Rattle.spec_flow_text.specs.Printed as printed
use Rattle.field_text.specs.Views.{bits_view, Fits}
use Rattle.match_text.specs.declared.shown.Shown.{Shown}
use Rattle.match_text.specs.declared.shown.Shown.TheVariants.{Short, Value}

abbrev pub shown_view : Shown → printed.Shown
shown_view (Short h) = printed.Short h
shown_view (Value f b) = printed.Value f (bits_view b)

-- The bits of an item are within its field.
abbrev pub IsFit : Shown → Type 0
IsFit (Short h) = Unit {0}
IsFit (Value f b) = Fits f b

-- an item that may be missing, as a list
abbrev pub item_of : Option Shown → List printed.Shown
item_of None = []
item_of (Some x) = shown_view x ∷ []

-- what stands before an item
abbrev pub lead : Bool → List ℕ
lead false = []
lead true = comma ∷ []

-- items with commas between them, the first of which follows others or doesn't
unfoldable pub items_text : Bool → List printed.Shown → List ℕ
items_text begun [] = []
items_text begun (x ∷ xs) = lead begun ++ (printed.shown_text x ++ items_text true xs)

-- whether an item stands before what follows these
abbrev pub begun_after : Bool → List printed.Shown → Bool
begun_after begun [] = begun
begun_after begun (x ∷ xs) = true
