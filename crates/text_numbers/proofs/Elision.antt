-- The first `::` of a text, sought from its start.
use Rattle.std.proofs.Common.{◌≡◌, ℕ, suc, ◌+◌, ◌<◌, ◌≤◌, List, [], ◌∷◌, ◌++◌, length, get_or, take, drop, Option, Some, None, option_map, codes, refl, sym, ap, ◌∙◌, append_assoc, append-nil, add-one, drop-cons, take-suc, drop_of_length-le}
use Rattle.spec_flow_text.specs.Numbers.{strip_prefix}
use Rattle.spec_flow_text.specs.Addresses.{split_at_elision}

-- parts, the first of them with what stands before it
abbrev with_front : List ℕ → Option (List ℕ × List ℕ) → Option (List ℕ × List ℕ)
with_front front parts = option_map (λ p. (front ++ p.0, p.1)) parts

-- what is found from a place on
abbrev pub found_from : ℕ → List ℕ → Option (List ℕ × List ℕ)
found_from at text = option_map (λ p. (take at text ++ p.0, p.1)) (split_at_elision (drop at text))

with_one_more : (front : List ℕ) (c : ℕ) (parts : Option (List ℕ × List ℕ)) → with_front front (option_map (λ p. (c ∷ p.0, p.1)) parts) ≡ with_front (front ++ (c ∷ [])) parts
with_one_more front c None = refl
with_one_more front c (Some p) = ap (λ t. Some (t, p.1)) (sym (append_assoc front (c ∷ []) p.0))

split_here : (c : ℕ) (rest back : List ℕ) → strip_prefix (codes "::") (c ∷ rest) ≡ Some back → split_at_elision (c ∷ rest) ≡ Some ([], back)
unfolding split_at_elision
split_here c rest back e = rw e refl

split_later : (c : ℕ) (rest : List ℕ) → strip_prefix (codes "::") (c ∷ rest) ≡ None → split_at_elision (c ∷ rest) ≡ option_map (λ p. (c ∷ p.0, p.1)) (split_at_elision rest)
unfolding split_at_elision
split_later c rest e = rw e refl

pub at_place : (at : ℕ) (text back : List ℕ) → at < length text → strip_prefix (codes "::") (drop at text) ≡ Some back → found_from at text ≡ Some (take at text, back)
at_place at text back lt e =
    let parts : drop at text ≡ get_or text at 0 ∷ drop (suc at) text = drop-cons text at 0 lt in
    let here = split_here (get_or text at 0) (drop (suc at) text) back (ap (λ t. strip_prefix (codes "::") t) (sym parts) ∙ e) in
    ap (λ t. with_front (take at text) (split_at_elision t)) parts ∙ ap (with_front (take at text)) here ∙ ap (λ t. Some (t, back)) (append-nil (take at text))

pub at_next_place : (at : ℕ) (text : List ℕ) → at < length text → strip_prefix (codes "::") (drop at text) ≡ None → found_from (at + 1) text ≡ found_from at text
at_next_place at text lt e =
    let parts : drop at text ≡ get_or text at 0 ∷ drop (suc at) text = drop-cons text at 0 lt in
    let later = split_later (get_or text at 0) (drop (suc at) text) (ap (λ t. strip_prefix (codes "::") t) (sym parts) ∙ e) in
    rw add-one (sym (
    ap (λ t. with_front (take at text) (split_at_elision t)) parts ∙ ap (with_front (take at text)) later
    ∙ with_one_more (take at text) (get_or text at 0) (split_at_elision (drop (suc at) text))
    ∙ ap (λ t. with_front t (split_at_elision (drop (suc at) text))) (sym (take-suc text at 0 lt))))

pub at_end : (at : ℕ) (text : List ℕ) → length text ≤ at → found_from at text ≡ None
unfolding split_at_elision
at_end at text le = rw (drop_of_length-le text {i = at} le) refl
