-- Texts that are added one after the other.
use Rattle.std.proofs.Common.{◌≡◌, ℕ, List, ◌++◌, subst, ap, ◌∙◌, append_assoc, Result, Ok, Err, IsErr, String, string_bytes}
use Rattle.std.proofs.lemmas.Result.{on_ok_weaker, on_err_weaker}
use Rattle.text_numbers.specs.Added.{IsPrefix, Adds}

later : (old mid new more : List ℕ) → mid ≡ old ++ more → IsPrefix mid new → IsPrefix old new
later old mid new more e p = record {
  rest = more ++ p.rest;
  whole = p.whole ∙ ap (λ t. t ++ p.rest) e ∙ append_assoc old more p.rest;
}

-- a text, and then one more
pub then : {Z A B E F : Type 0} {old mid new : String Z} {one more : List ℕ} {x : A} {r : Result B F}
    → Adds {E = E} old mid one (Ok x) → Adds mid new more r → Adds old new (one ++ more) r
then {old = old} {mid = mid} {new = new} {one = one} {more = more} {r = r} first second = record {
  text = on_ok_weaker r (λ e. e ∙ ap (λ t. t ++ more) first.text ∙ append_assoc (string_bytes old) one more) second.text;
  kept = on_err_weaker r (later (string_bytes old) (string_bytes mid) (string_bytes new) one first.text) second.kept;
}

-- the same text, written otherwise
pub same_text : {Z B F : Type 0} {old new : String Z} {one other : List ℕ} {r : Result B F} → one ≡ other → Adds old new one r → Adds old new other r
same_text {old = old} {new = new} {r = r} e added = subst (λ t. Adds old new t r) e added

-- what was added before a refusal
pub stopped : {Z A B E F : Type 0} {old new : String Z} {one other : List ℕ} {e : E} {r : Result B F} → IsErr r → Adds {A = A} old new one (Err e)
    → Adds old new other r
stopped {r = Ok x} is added = absurd (cc is)
stopped {r = Err f} is added = record { text = tt; kept = added.kept }
