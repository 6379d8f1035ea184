-- The end of a text whose parts were added in a loop; and powers of ten.
use Rattle.std.proofs.Common.{◌≡◌, ℕ, zero, suc, ◌*◌, ◌^◌, ◌<◌, List, ◌++◌, ◌∙◌, arith, Result, String, string_bytes}
use Rattle.std.proofs.lemmas.Result.{on_ok_weaker, on_err_weaker}
use Rattle.std.proofs.Math.Nat.{pow-zero, pow-suc}
use Rattle.text_numbers.specs.Added.{IsPrefix, Adds}
use Rattle.match_text.proofs.ItemTexts.{begins_on}

-- what was added so far, and the last part
pub ends : {Z B F : Type 0} (old mid new : String Z) (last whole : List ℕ) (r : Result B F)
    → IsPrefix (string_bytes old) (string_bytes mid) → string_bytes mid ++ last ≡ string_bytes old ++ whole
    → Adds mid new last r → Adds old new whole r
ends old mid new last whole r kept is added = record {
  text = on_ok_weaker r (λ e. e ∙ is) added.text;
  kept = on_err_weaker r (begins_on (string_bytes old) (string_bytes mid) (string_bytes new) kept) added.kept;
}

pub ten_positive : (k : ℕ) → 0 < 10 ^ k
ten_positive zero = omega (arith, pow-zero 10)
ten_positive (suc k) = omega (arith, pow-suc 10 k, ten_positive k)
