-- Bundles that follow each other.
use Rattle.std.specs.Prelude.{ℕ, ◌<◌, List, length}
use Rattle.spec_tables.specs.Edits.{Edit}
use Rattle.spec_tables.specs.Bundles.{AreBundles}

-- It holds of all edits, of their bundles, and of how many of these stand before any one of them.
abbrev pub OfBundles : (List Edit → List ℕ → ℕ → Type 0) → Type 0
OfBundles claim =
    (edits : List Edit) (bundles : List ℕ) (v : ℕ)
    → AreBundles bundles (length edits) → v < length bundles → claim edits bundles v
