-- The first arrow of a text, sought from its start.
use Rattle.std.proofs.Common.{◌≡◌, ℕ, suc, ◌+◌, ◌<◌, ◌≤◌, List, ◌∷◌, length, get_or, drop, Option, Some, None, true, false, refl, sym, ap, ◌∙◌, arith, add-one, drop-cons, drop_of_length-le}
use Rattle.std.specs.Prelude.{nat_eq}
use Rattle.std.specs.List.{starts_with}
use Rattle.std.specs.Option.{option_map}
use Rattle.spec_flow_text.specs.Actions.{arrow, arrow_place}

-- the place that is found from a place on
abbrev pub arrow_from : ℕ → List ℕ → Option ℕ
arrow_from at text = option_map (λ i. at + i) (arrow_place (drop at text))

pub from_start : (text : List ℕ) → arrow_from 0 text ≡ arrow_place text
from_start text = same (arrow_place text)
  where
    same : (o : Option ℕ) → option_map (λ i. 0 + i) o ≡ o
    same None = refl
    same (Some i) = let e : 0 + i ≡ i = omega arith in rw e refl

here : (c : ℕ) (cs : List ℕ) → starts_with nat_eq (c ∷ cs) arrow ≡ true → arrow_place (c ∷ cs) ≡ Some 0
unfolding arrow_place
here c cs e = rw e refl

later : (c : ℕ) (cs : List ℕ) → starts_with nat_eq (c ∷ cs) arrow ≡ false → arrow_place (c ∷ cs) ≡ option_map (λ i. i + 1) (arrow_place cs)
unfolding arrow_place
later c cs e = rw e refl

pub at_place : (at : ℕ) (text : List ℕ) → at < length text → starts_with nat_eq (drop at text) arrow ≡ true → arrow_from at text ≡ Some at
at_place at text lt e =
    let parts : drop at text ≡ get_or text at 0 ∷ drop (suc at) text = drop-cons text at 0 lt in
    let found = here (get_or text at 0) (drop (suc at) text) (rw parts at e) in
    let zero_more : at + 0 ≡ at = omega arith in
    rw (parts, found, zero_more) refl

further : (at : ℕ) (o : Option ℕ) → option_map (λ i. at + 1 + i) o ≡ option_map (λ i. at + i) (option_map (λ i. i + 1) o)
further at None = refl
further at (Some i) = let e : at + 1 + i ≡ at + (i + 1) = omega arith in rw e refl

pub at_next_place : (at : ℕ) (text : List ℕ) → at < length text → starts_with nat_eq (drop at text) arrow ≡ false → arrow_from (at + 1) text ≡ arrow_from at text
at_next_place at text lt e =
    let parts : drop at text ≡ get_or text at 0 ∷ drop (suc at) text = drop-cons text at 0 lt in
    let none : arrow_place (get_or text at 0 ∷ drop (suc at) text) ≡ option_map (λ i. i + 1) (arrow_place (drop (suc at) text)) = later (get_or text at 0) (drop (suc at) text) (rw parts at e) in
    let whole : arrow_from at text ≡ option_map (λ i. at + i) (option_map (λ i. i + 1) (arrow_place (drop (suc at) text))) = ap (λ t. option_map (λ i. at + i) (arrow_place t)) parts ∙ ap (λ o. option_map (λ i. at + i) o) none in
    let rest : drop (at + 1) text ≡ drop (suc at) text = ap (λ n. drop n text) (add-one at) in
    further at (arrow_place (drop (at + 1) text)) ∙ ap (λ t. option_map (λ i. at + i) (option_map (λ i. i + 1) (arrow_place t))) rest ∙ sym whole

pub at_end : (at : ℕ) (text : List ℕ) → length text ≤ at → arrow_from at text ≡ None
unfolding arrow_place
at_end at text le = rw (drop_of_length-le text {i = at} le) refl
