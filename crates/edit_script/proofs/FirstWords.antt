-- A text is blank where its first word is empty.
use Rattle.std.proofs.Common.{◌≡◌, ℕ, suc, ◌+◌, Bool, true, false, cond, List, [], ◌∷◌, length, take, drop, refl, sym, arith}
use Rattle.std.specs.Prelude.{◌==◌, ◌&&◌}
use Rattle.std.specs.List.{list_all, prefix_len, position_or_len, before_first}
use Rattle.std.proofs.lemmas.Bool.{ne_eqb}

pub blank_word : (white : ℕ → Bool) (text : List ℕ) → list_all white text ≡ (length (before_first white (drop (prefix_len white text) text)) == 0)
blank_word white [] = refl
blank_word white (c ∷ cs) = by_test white c cs (white c) refl (blank_word white cs)
  where
    by_test : (white : ℕ → Bool) (c : ℕ) (cs : List ℕ) (t : Bool) → white c ≡ t
        → list_all white cs ≡ (length (before_first white (drop (prefix_len white cs) cs)) == 0)
        → (t && list_all white cs) ≡ (length (before_first white (drop (cond t (1 + prefix_len white cs) 0) (c ∷ cs))) == 0)
    by_test white c cs true is rest = let e : 1 + prefix_len white cs ≡ suc (prefix_len white cs) = omega arith in rw e rest
    by_test white c cs false is rest =
        let e : 1 + position_or_len white cs ≡ suc (position_or_len white cs) = omega arith in
        rw (is, e) (sym (ne_eqb (suc (length (take (position_or_len white cs) cs))) 0 (λ z. omega arith)))
