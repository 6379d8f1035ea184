-- Lists of frames that are written in turn: what stands before one, what it is, and what stands after it.
use Rattle.std.proofs.Common.{◌≡◌, ℕ, suc, ◌+◌, ◌-◌, ◌<◌, List, [], ◌∷◌, ◌++◌, length, get_or, take, drop, replicate, sym, ap, ◌∙◌, append_assoc, arith}
use Rattle.std.specs.List.{flat_map}
use Rattle.std.proofs.lemmas.List.{append-nil, drop_more, replicate-append-replicate, take-append-drop, take_more}
use Rattle.std.proofs.lemmas.Grind.{flat_map-append}

-- the bytes of one record alone
pub of_one : {X : Type 0} (bytes : X → List ℕ) (x : X) → flat_map bytes (x ∷ []) ≡ bytes x
of_one bytes x = append-nil (bytes x)

module _ {X : Type 0} (bytes : X → List ℕ) (x : X) where
  -- copies before one, that one, and those after it
  pub around_copy : (i n : ℕ) → i < n
      → flat_map bytes (replicate n x) ≡ flat_map bytes (replicate i x) ++ (bytes x ++ flat_map bytes (replicate (n - (i + 1)) x))
  around_copy i n lt =
      let more : i + suc (n - (i + 1)) ≡ n = omega arith in
      let all : replicate n x ≡ replicate i x ++ (x ∷ replicate (n - (i + 1)) x) = sym (replicate-append-replicate i (suc (n - (i + 1))) x ∙ ap (λ m. replicate m x) more) in
      ap (flat_map bytes) all ∙ flat_map-append bytes (replicate i x) (x ∷ replicate (n - (i + 1)) x)

  -- one copy more
  pub copy_more : (i : ℕ) → flat_map bytes (replicate (i + 1) x) ≡ flat_map bytes (replicate i x) ++ bytes x
  copy_more i =
      ap (flat_map bytes) (sym (replicate-append-replicate i 1 x)) ∙ flat_map-append bytes (replicate i x) (replicate 1 x)
      ∙ ap (λ (ys : List ℕ). flat_map bytes (replicate i x) ++ ys) (of_one bytes x)

module _ {X Z : Type 0} (pieces : X → List Z) (bytes : Z → List ℕ) (header : List ℕ) (xs : List X) (i : ℕ) (d : X) (lt : i < length xs) where
  -- the bytes of a header and of the pieces of these
  abbrev file : List X → List ℕ
  file xs = header ++ flat_map bytes (flat_map pieces xs)

  abbrev after : List X
  after = drop (i + 1) xs

  pub around_pieces : file xs ≡ file (take i xs) ++ (flat_map bytes (pieces (get_or xs i d)) ++ flat_map bytes (flat_map pieces after))
  around_pieces =
      let x = get_or xs i d in
      let cut : xs ≡ take i xs ++ (x ∷ after) = sym (take-append-drop i xs) ∙ ap (λ ys. take i xs ++ ys) (drop_more xs i d lt) in
      let all : flat_map bytes (flat_map pieces xs) ≡ flat_map bytes (flat_map pieces (take i xs)) ++ (flat_map bytes (pieces x) ++ flat_map bytes (flat_map pieces after)) =
      ap (λ (ys : List X). flat_map bytes (flat_map pieces ys)) cut ∙ ap (flat_map bytes) (flat_map-append pieces (take i xs) (x ∷ after))
      ∙ flat_map-append bytes (flat_map pieces (take i xs)) (pieces x ++ flat_map pieces after)
      ∙ ap (λ zs. flat_map bytes (flat_map pieces (take i xs)) ++ zs) (flat_map-append bytes (pieces x) (flat_map pieces after)) in
      ap (λ ys. header ++ ys) all ∙ sym (append_assoc header (flat_map bytes (flat_map pieces (take i xs))) _)

  pub pieces_more : file (take (i + 1) xs) ≡ file (take i xs) ++ flat_map bytes (pieces (get_or xs i d))
  pieces_more =
      let x = get_or xs i d in
      let all : flat_map bytes (flat_map pieces (take (i + 1) xs)) ≡ flat_map bytes (flat_map pieces (take i xs)) ++ flat_map bytes (pieces x) =
      ap (λ (ys : List X). flat_map bytes (flat_map pieces ys)) (take_more xs i d lt) ∙ ap (flat_map bytes) (flat_map-append pieces (take i xs) (x ∷ []))
      ∙ flat_map-append bytes (flat_map pieces (take i xs)) (pieces x ++ [])
      ∙ ap (λ zs. flat_map bytes (flat_map pieces (take i xs)) ++ flat_map bytes zs) (append-nil (pieces x)) in
      ap (λ ys. header ++ ys) all ∙ sym (append_assoc header (flat_map bytes (flat_map pieces (take i xs))) _)
