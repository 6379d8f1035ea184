-- Lists of items, printed one after the other with commas between them.
use Rattle.std.proofs.Common.{◌≡◌, ℕ, suc, ◌+◌, ◌-◌, ◌<◌, ◌≤◌, List, [], ◌∷◌, ◌++◌, length, get_or, take, drop, map, refl, sym, ap, ◌∙◌, arith, add-one, append_assoc, append-nil, drop-cons, drop_of_length-le}
use Rattle.std.specs.List.{join_with_byte}
use Rattle.std.proofs.lemmas.List.{take_all}
use Rattle.spec_flow_text.specs.Characters.{comma}
use Rattle.spec_flow_text.specs.Printed.{list_printed}
use Rattle.text_numbers.specs.Added.{IsPrefix}
use Rattle.field_text.specs.CommaLists.{after_commas}

module _ {A : Type 0} (text : A → List ℕ) where
  none_after : after_commas text [] ≡ []
  unfolding after_commas
  none_after = refl

  one_after : (x : A) (xs : List A) → after_commas text (x ∷ xs) ≡ (comma ∷ text x) ++ after_commas text xs
  unfolding after_commas
  one_after x xs = refl

  -- the first item, and the others after commas
  joined_with : (x : A) (xs : List A) → text x ++ after_commas text xs ≡ join_with_byte comma (map text (x ∷ xs))
  joined_with x [] = ap (λ t. text x ++ t) none_after ∙ append-nil (text x)
  joined_with x (y ∷ xs) = ap (λ t. text x ++ t) (one_after y xs) ∙ ap (λ t. text x ++ (comma ∷ t)) (joined_with y xs)

  pub first_and_others : (list : List A) (x : A) → 1 ≤ length list → x ≡ get_or list 0 x
      → text x ++ after_commas text (take (length list - 1) (drop 1 list)) ≡ list_printed text list
  first_and_others [] x le is = absurd (omega arith)
  first_and_others (y ∷ xs) x le is =
      let whole : take (length (y ∷ xs) - 1) xs ≡ xs = take_all (length (y ∷ xs) - 1) xs (omega arith) in
      ap (λ t. text x ++ after_commas text t) whole ∙ ap (λ z. text z ++ after_commas text xs) is ∙ joined_with y xs

  -- ---- in a loop

  pub next_joined : (start out new : List ℕ) (others : List A) (at : ℕ) (x : A) → at < length others → x ≡ get_or others at x
      → new ≡ out ++ (comma ∷ text x) → out ++ after_commas text (drop at others) ≡ start
      → new ++ after_commas text (drop (at + 1) others) ≡ start
  next_joined start out new others at x lt this is so_far =
      let parts : drop at others ≡ x ∷ drop (suc at) others = drop-cons others at x lt ∙ ap (λ y. y ∷ drop (suc at) others) (sym this) in
      let rest : drop (at + 1) others ≡ drop (suc at) others = ap (λ n. drop n others) (add-one at) in
      ap (λ t. t ++ after_commas text (drop (at + 1) others)) is ∙ ap (λ t. (out ++ (comma ∷ text x)) ++ after_commas text t) rest
      ∙ append_assoc out (comma ∷ text x) (after_commas text (drop (suc at) others))
      ∙ ap (λ t. out ++ t) (sym (one_after x (drop (suc at) others)))
      ∙ ap (λ ts. out ++ after_commas text ts) (sym parts) ∙ so_far

  pub all_joined : (start out : List ℕ) (others : List A) (at : ℕ) → length others ≤ at
      → out ++ after_commas text (drop at others) ≡ start → out ≡ start
  all_joined start out others at le so_far =
      let e : out ++ after_commas text (drop at others) ≡ out =
      ap (λ ts. out ++ after_commas text ts) (drop_of_length-le others {i = at} le) ∙ ap (λ t. out ++ t) none_after ∙ append-nil out in
      sym e ∙ so_far

-- ---- what is kept

pub longer : (start mid new more : List ℕ) → IsPrefix start mid → new ≡ mid ++ more → IsPrefix start new
longer start mid new more p is = record { rest = p.rest ++ more; whole = is ∙ ap (λ t. t ++ more) p.whole ∙ append_assoc start p.rest more }
