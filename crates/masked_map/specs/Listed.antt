-- Entries of a map whose keys are seen as lists.
use Rattle.std.specs.Prelude.{ℕ, List, map}

abbrev pub listed : {K V : Type 0} → (K → List ℕ) → List (K × V) → List (List ℕ × V)
listed list es = map (λ e. (list e.0, e.1)) es
