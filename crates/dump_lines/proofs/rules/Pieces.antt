-- Pieces that are added to a text one after the other.
use Rattle.std.proofs.Common.{◌≡◌, ℕ, List, ◌++◌, Result, ap, ◌∙◌, append_assoc}
use Rattle.std.specs.Prelude.{String, string_bytes}
use Rattle.std.proofs.lemmas.Result.{on_ok_weaker, on_err_weaker}
use Rattle.text_numbers.specs.Added.{Adds}

-- what is added after a first piece
pub then_adds : {Z A E : Type 0} (old mid new : String Z) (x y : List ℕ) (r : Result A E) → string_bytes mid ≡ string_bytes old ++ x
    → Adds mid new y r → Adds old new (x ++ y) r
then_adds old mid new x y r first adds = record {
  text = on_ok_weaker r (λ second. second ∙ ap (λ t. t ++ y) first ∙ append_assoc (string_bytes old) x y) adds.text;
  kept = on_err_weaker r (λ prefix. record {
    rest = x ++ prefix.rest;
    whole = prefix.whole ∙ ap (λ t. t ++ prefix.rest) first ∙ append_assoc (string_bytes old) x prefix.rest;
  }) adds.kept;
}
