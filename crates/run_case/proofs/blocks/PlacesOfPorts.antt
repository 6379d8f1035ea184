-- Where a port stands, and the trace that stands there.
use Rattle.std.proofs.Common.{◌≡◌, ℕ, suc, ◌+◌, ◌<◌, ◌≤◌, ◌^◌, Bool, true, false, inl, inr, List, [], ◌∷◌, length, get_or, Some, refl, sym, ap, ◌∙◌, arith}
use Rattle.std.specs.Prelude.{◌==◌, nat_lt, nat_eq, position, slice_get, is_some, Contains}
use Rattle.std.specs.List.{list_any, position_or_len, IsDistinct}
use Rattle.std.proofs.lemmas.Bool.{cases_lt, lt-ltb, le-ltb, ltb-true, eqb-true, eq-eqb}
use Rattle.std.proofs.lemmas.List.Folds.{list_any_at}
use Rattle.std.proofs.lemmas.List.Sums.{passes_at_first, position_or_len_is}
use Rattle.std.proofs.lemmas.List.Quantifiers.{position-Some}
use Rattle.std.proofs.lemmas.Option.{slice_get-get_or, get_or_from_slice_get}
use Rattle.std.proofs.lemmas.Map.Keys.{apart_from_distinct}
use Rattle.std.proofs.lemmas.Map.Steps.{length-le_from_distinct_below}
use Rattle.spec_pcap.specs.Pcap.{Capture}
use Rattle.spec_case.specs.Run.{frames_in}
use Rattle.run_case.specs.Places.{HasPort}

lt-suc-suc : (a b : ℕ) → nat_lt (suc a) (suc b) ≡ nat_lt a b
lt-suc-suc a b =
    elim (cases_lt a b) [
      | inl less ↦ lt-ltb (suc a) (suc b) (omega arith) ∙ sym (lt-ltb a b less)
      | inr more ↦ le-ltb (suc a) (suc b) (omega arith) ∙ sym (le-ltb a b more)
    ]

-- the place that a test finds is one of the list exactly where some element passes
within-list_any : {X : Type 0} (p : X → Bool) (xs : List X) → nat_lt (position_or_len p xs) (length xs) ≡ list_any p xs
within-list_any p [] = refl
within-list_any p (x ∷ xs) = by_test (p x) refl (within-list_any p xs)
  where
    by_test : (test : Bool) → p x ≡ test → nat_lt (position_or_len p xs) (length xs) ≡ list_any p xs
        → nat_lt (position_or_len p (x ∷ xs)) (length (x ∷ xs)) ≡ list_any p (x ∷ xs)
    by_test true is rest = rw is (lt-ltb 0 (suc (length xs)) (omega arith))
    by_test false is rest = let next : 1 + position_or_len p xs ≡ suc (position_or_len p xs) = omega arith in
        rw (is, next) (lt-suc-suc (position_or_len p xs) (length xs) ∙ rest)

pub is_some-position : {X : Type 0} (p : X → Bool) (xs : List X) → is_some (position p xs) ≡ list_any p xs
is_some-position p xs = by_test (nat_lt (position_or_len p xs) (length xs)) refl
  where
    by_test : (test : Bool) → nat_lt (position_or_len p xs) (length xs) ≡ test → is_some (position p xs) ≡ list_any p xs
    by_test true is = rw is (sym is ∙ within-list_any p xs)
    by_test false is = rw is (sym is ∙ within-list_any p xs)

module _ (port : ℕ) where
  abbrev is_port : ℕ → Bool
  is_port p = p == port

  -- at its place stands the port
  pub slice_get-position : (ports : List ℕ) (place : ℕ) → position is_port ports ≡ Some place → slice_get ports place ≡ Some port
  slice_get-position ports place is =
      let found = position-Some is_port ports place 0 is in
      slice_get-get_or ports place 0 found.0 ∙ ap (λ (p : ℕ). Some p) (eqb-true _ _ found.1)

  pub position-within : (ports : List ℕ) (place : ℕ) → position is_port ports ≡ Some place → place < length ports
  position-within ports place is = (position-Some is_port ports place 0 is).0

  -- where ports differ, a port stands at no other place
  pub position-at : (ports : List ℕ) (place : ℕ) → IsDistinct nat_eq ports → place < length ports → get_or ports place 0 ≡ port
      → position is_port ports ≡ Some place
  position-at ports place distinct within at =
      let others : (k : ℕ) → k < place → is_port (get_or ports k 0) ≡ false =
      λ k less. rw (← at) (apart_from_distinct nat_eq ports k place 0 distinct less within) in
      let first : position_or_len is_port ports ≡ place =
      position_or_len_is is_port ports place 0 (omega arith) others (λ _. eq-eqb _ _ at) in
      rw (first, lt-ltb place (length ports) within) refl

  -- a port that stands at a place is among the ports
  pub HasPort-from_get : (ports : List ℕ) (place : ℕ) → slice_get ports place ≡ Some port → place < length ports → HasPort ports port
  HasPort-from_get ports place is within =
      let at : get_or ports place 0 ≡ port = get_or_from_slice_get ports place port 0 is in
      list_any_at is_port ports place 0 within (eq-eqb _ _ at)

  pub HasPort-from_Contains : (ports : List ℕ) → Contains ports port → HasPort ports port
  HasPort-from_Contains ports (place, within, at) = list_any_at is_port ports place port within (eq-eqb _ _ at)

  -- the frames of a port are those of the trace at its place
  at_position : (ports : List ℕ) (traces : List Capture) (d : Capture) → length traces ≡ length ports
      → position_or_len is_port ports < length ports → frames_in ports traces port ≡ (get_or traces (position_or_len is_port ports) d).frames
  unfolding frames_in
  at_position [] traces d same within = absurd (omega arith)
  at_position (p ∷ ps) [] d same within = absurd (omega arith)
  at_position (p ∷ ps) (t ∷ ts) d same within =
      by_test (p == port) refl within (at_position ps ts d (omega arith))
    where
      by_test : (test : Bool) → (p == port) ≡ test → position_or_len is_port (p ∷ ps) < length (p ∷ ps)
          → (position_or_len is_port ps < length ps → frames_in ps ts port ≡ (get_or ts (position_or_len is_port ps) d).frames)
          → frames_in (p ∷ ps) (t ∷ ts) port ≡ (get_or (t ∷ ts) (position_or_len is_port (p ∷ ps)) d).frames
      by_test true is less others = rw is refl
      by_test false is less others =
          let next : 1 + position_or_len is_port ps ≡ suc (position_or_len is_port ps) = omega arith in
          let rest = rw is at less in
          rw (is, next) (others (omega arith))

  pub frames_in-position : (ports : List ℕ) (traces : List Capture) (place : ℕ) (d : Capture) → length traces ≡ length ports
      → position is_port ports ≡ Some place → frames_in ports traces port ≡ (get_or traces place d).frames
  frames_in-position ports traces place d same is = by_test (nat_lt (position_or_len is_port ports) (length ports)) refl is
    where
      by_test : (test : Bool) → nat_lt (position_or_len is_port ports) (length ports) ≡ test → position is_port ports ≡ Some place
          → frames_in ports traces port ≡ (get_or traces place d).frames
      by_test true less e =
          let at : position_or_len is_port ports ≡ place = cc (rw less at e) in
          at_position ports traces d same (ltb-true _ _ less) ∙ ap (λ (q : ℕ). (get_or traces q d).frames) at
      by_test false less e = absurd (cc (rw less at e))

-- different ports are no more than numbers of 16 bits
pub length-distinct_ports : (ports : List ℕ) → ((i d : ℕ) → i < length ports → get_or ports i d < 2 ^ 16) → IsDistinct nat_eq ports
    → length ports ≤ 2 ^ 16
length-distinct_ports ports fit distinct = length-le_from_distinct_below ports (2 ^ 16) distinct below
  where
    below : (q : ℕ) → list_any (nat_eq q) ports ≡ true → q < 2 ^ 16
    below q there =
        let first = position_or_len (nat_eq q) ports in
        let within : first < length ports = ltb-true _ _ (within-list_any (nat_eq q) ports ∙ there) in
        let same : q ≡ get_or ports first 0 = eqb-true _ _ (passes_at_first (nat_eq q) ports 0 within) in
        rw same (fit first 0 within)
