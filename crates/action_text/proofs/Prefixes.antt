-- The length of what stands at the start of a text.
use Rattle.std.proofs.Common.{◌≡◌, Bool, List, length, take}
use Rattle.std.specs.List.{prefix_len}
use Rattle.std.proofs.lemmas.List.Folds.{length-prefix_len}

pub taken_length : {X : Type 0} (p : X → Bool) (xs : List X) → length (take (prefix_len p xs) xs) ≡ prefix_len p xs
taken_length p xs = length-prefix_len p xs
