-- Prefixes of pieces that are written one after the other.
use Rattle.std.proofs.Common.{◌≡◌, ℕ, ◌+◌, ◌<◌, List, ◌∷◌, ◌++◌, length, get_or, take, drop, sym, ap, ◌∙◌, append_assoc, inl, inr, arith}
use Rattle.std.specs.List.{flat_map}
use Rattle.std.proofs.Math.Seq.{take-append-add, take-append_seam}
use Rattle.std.proofs.lemmas.List.{drop_more, flat_map_more, take_all, take_more, take-append-drop, take-append-le}
use Rattle.std.proofs.lemmas.Grind.{flat_map-append}
use Rattle.std.proofs.lemmas.Bool.{cases_lt}
use Rattle.edge_io.specs.Shelf.{Told, wrote}
use Rattle.edge_io.specs.Written.{WrotePrefix}

-- a prefix of the first piece is a prefix of both
pub prefix_of_first : (before after : Told) (xs ys : List ℕ) → WrotePrefix before after xs → WrotePrefix before after (xs ++ ys)
prefix_of_first before after xs ys (n, is) =
    elim (cases_lt n (length xs)) [
      | inl less ↦ (n, is ∙ ap (wrote before) (sym (take-append-le n xs ys (omega arith))))
      | inr all ↦ (length xs, is ∙ ap (wrote before) (take_all n xs all ∙ sym (take-append_seam xs ys)))
    ]

-- the first piece and a prefix of the second are a prefix of both
pub prefix_of_second : (before between after : Told) (xs ys : List ℕ) → between ≡ wrote before xs → WrotePrefix between after ys
    → WrotePrefix before after (xs ++ ys)
prefix_of_second before between after xs ys first (n, second) =
    let is = rw first at second in
    let both : (before.current ++ xs) ++ take n ys ≡ before.current ++ take (length xs + n) (xs ++ ys) =
    append_assoc before.current xs (take n ys) ∙ ap (λ (zs : List ℕ). before.current ++ zs) (sym (take-append-add xs ys n)) in
    (length xs + n, is ∙ ap (λ (zs : List ℕ). let told : Told = record before { current = zs } in told) both)

-- what stands before a piece, and a prefix of the piece, are a prefix of them with what stands after it
pub prefix_within : (before between after : Told) (xs piece ys all : List ℕ) → all ≡ xs ++ (piece ++ ys) → between ≡ wrote before xs
    → WrotePrefix between after piece → WrotePrefix before after all
prefix_within before between after xs piece ys all is first prefix =
    rw is (prefix_of_second before between after xs (piece ++ ys) first (prefix_of_first between after piece ys prefix))

module _ {X : Type 0} (bytes : X → List ℕ) where
  -- the bytes of those before one, of it, and of those after it
  pub around : (xs : List X) (i : ℕ) (d : X) → i < length xs
      → flat_map bytes xs ≡ flat_map bytes (take i xs) ++ (bytes (get_or xs i d) ++ flat_map bytes (drop (i + 1) xs))
  around xs i d lt =
      let cut : xs ≡ take i xs ++ (get_or xs i d ∷ drop (i + 1) xs) = sym (take-append-drop i xs) ∙ ap (λ ys. take i xs ++ ys) (drop_more xs i d lt) in
      ap (flat_map bytes) cut ∙ flat_map-append bytes (take i xs) (get_or xs i d ∷ drop (i + 1) xs)

  -- the bytes of those before one, and a prefix of its own
  pub prefix_of_one : (before between after : Told) (xs : List X) (i : ℕ) (d : X) → i < length xs
      → between ≡ wrote before (flat_map bytes (take i xs)) → WrotePrefix between after (bytes (get_or xs i d))
      → WrotePrefix before after (flat_map bytes xs)
  prefix_of_one before between after xs i d lt first prefix =
      prefix_within before between after (flat_map bytes (take i xs)) (bytes (get_or xs i d)) (flat_map bytes (drop (i + 1) xs)) (flat_map bytes xs)
      (around xs i d lt) first prefix

  -- the bytes of those before one, and its own
  pub wrote_more : (before between after : Told) (xs : List X) (i : ℕ) (d : X) → i < length xs
      → between ≡ wrote before (flat_map bytes (take i xs)) → after ≡ wrote between (bytes (get_or xs i d))
      → after ≡ wrote before (flat_map bytes (take (i + 1) xs))
  wrote_more before between after xs i d lt first second =
      let all : (before.current ++ flat_map bytes (take i xs)) ++ bytes (get_or xs i d) ≡ before.current ++ flat_map bytes (take (i + 1) xs) =
      flat_map_more bytes before.current (take i xs) (get_or xs i d) ∙ ap (λ ys. before.current ++ flat_map bytes ys) (sym (take_more xs i d lt)) in
      second ∙ ap (λ (told : Told). wrote told (bytes (get_or xs i d))) first ∙ ap (λ (ys : List ℕ). let told : Told = record before { current = ys } in told) all
