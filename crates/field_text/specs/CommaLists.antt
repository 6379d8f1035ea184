-- Texts of items that stand after another one.
use Rattle.std.specs.Prelude.{ℕ, List, [], ◌∷◌, ◌++◌}
use Rattle.spec_flow_text.specs.Characters.{comma}

-- the text of each after a comma
unfoldable pub after_commas : {A : Type 0} → (A → List ℕ) → List A → List ℕ
after_commas text [] = []
after_commas text (x ∷ xs) = (comma ∷ text x) ++ after_commas text xs
