-- Texts that are printed one after the other.
use Rattle.std.specs.Prelude.{◌≡◌, ◌⊎◌, ℕ, List}
use Rattle.std.specs.List.{flat_map}
use Rattle.edge_io.specs.Counts.{with_fault}
use denote.Ref.{Bor}

-- the text of pieces
abbrev pub joined : List (Bor (List ℕ)) → List ℕ
joined pieces = flat_map (λ piece. piece.now) pieces

-- Printing failed at most once: the count of faults stands still, or one fault was counted.
abbrev pub FailsAtMostOnce : ℕ → ℕ → Type 0
FailsAtMostOnce before now = (now ≡ before) ⊎ (now ≡ with_fault before)
