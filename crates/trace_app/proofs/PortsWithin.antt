-- Ports with commas between them, one after the other.
use Rattle.std.proofs.Common.{◌≡◌, ℕ, suc, ◌-◌, List, [], ◌∷◌, ◌++◌, Option, Some, None, refl, sym, ap, ◌∙◌, arith}
use Rattle.std.specs.Option.{option_map, option_and_then}
use Rattle.spec_flow_text.specs.Characters.{comma}
use Rattle.spec_flow_text.specs.Numbers.{where_found, split_once}
use Rattle.spec_tools.specs.TraceWords.{new_port, ports_within}

before : (n : ℕ) → (n ≡ 0 → ⊥) → n ≡ suc (n - 1)
before n some = omega arith

module _ (room : ℕ) (ports text : List ℕ) where
  abbrev Rest : ℕ → Option (List ℕ × List ℕ) → Option (List ℕ)
  Rest n parts =
      where_found parts
      (λ p. option_and_then (λ port. ports_within n (ports ++ port ∷ []) p.1) (new_port ports p.0))
      (option_map (λ port. ports ++ port ∷ []) (new_port ports text))

  one : (parts : Option (List ℕ × List ℕ)) → (room ≡ 0 → ⊥) → parts ≡ split_once comma text → ports_within room ports text ≡ Rest (room - 1) parts
  unfolding ports_within
  one parts some is = ap (λ n. ports_within n ports text) (before room some) ∙ ap (Rest (room - 1)) (sym is)

  -- the last one
  pub within-last : (room ≡ 0 → ⊥) → None ≡ split_once comma text → option_map (λ port. ports ++ port ∷ []) (new_port ports text) ≡ ports_within room ports text
  within-last some is = sym (one None some is)

  -- one that is none, and others behind it
  pub within-none : (word rest : List ℕ) → (room ≡ 0 → ⊥) → Some (word, rest) ≡ split_once comma text
      → None ≡ option_map (λ port. ports ++ port ∷ []) (new_port ports word) → None ≡ ports_within room ports text
  within-none word rest some is none = by_port (new_port ports word) refl none ∙ sym (one (Some (word, rest)) some is)
    where
      by_port : (found : Option ℕ) → new_port ports word ≡ found → None ≡ option_map (λ port. ports ++ port ∷ []) found
          → None ≡ option_and_then (λ port. ports_within (room - 1) (ports ++ port ∷ []) rest) (new_port ports word)
      by_port None found e = ap (option_and_then (λ port. ports_within (room - 1) (ports ++ port ∷ []) rest)) (sym found)
      by_port (Some port) found e = absurd (cc e)

  -- one, and others behind it
  pub within-more : (word rest now : List ℕ) → (room ≡ 0 → ⊥) → Some (word, rest) ≡ split_once comma text
      → Some now ≡ option_map (λ port. ports ++ port ∷ []) (new_port ports word) → ports_within (room - 1) now rest ≡ ports_within room ports text
  within-more word rest now some is added = by_port (new_port ports word) refl added ∙ sym (one (Some (word, rest)) some is)
    where
      by_port : (found : Option ℕ) → new_port ports word ≡ found → Some now ≡ option_map (λ port. ports ++ port ∷ []) found
          → ports_within (room - 1) now rest ≡ option_and_then (λ port. ports_within (room - 1) (ports ++ port ∷ []) rest) (new_port ports word)
      by_port None found e = absurd (cc e)
      by_port (Some port) found e =
          let same : now ≡ ports ++ port ∷ [] = cc e in
          ap (λ z. ports_within (room - 1) z rest) same
          ∙ ap (option_and_then (λ port. ports_within (room - 1) (ports ++ port ∷ []) rest)) (sym found)

  -- no room is left
  pub within-full : room ≡ 0 → None ≡ ports_within room ports text
  unfolding ports_within
  within-full none = sym (ap (λ n. ports_within n ports text) none)
