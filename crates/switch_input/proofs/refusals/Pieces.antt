-- What is printed of pieces, one after the other.
use Rattle.std.proofs.Common.{Ok, Err, ◌≡◌, ℕ, Result, inl, inr, zero, suc, ◌+◌, ◌<◌, List, [], ◌∷◌, ◌++◌, length, get_or, take, refl, sym, ap, ◌∙◌, append_assoc, arith}
use Rattle.std.proofs.Math.Seq.{take-append-add}
use denote.Ref.{Bor}
use Rattle.edge_io.specs.declared.outside.Failed.{Failed}
use Rattle.edge_io.specs.declared.outside.Failed.TheVariants as failed
use Rattle.edge_io.specs.Counts.{HasCause, with_fault}
use Rattle.switch_input.specs.Pieces.{joined, FailsAtMostOnce}

-- the start of a text is one of all that begins with it
start : (n : ℕ) (text rest : List ℕ) → (m : ℕ) × (take n text ≡ take m (text ++ rest))
start zero text rest = (0, refl)
start (suc n) [] rest = (0, refl)
start (suc n) (x ∷ text) rest = let more = start n text rest in (suc more.0, ap (λ xs. x ∷ xs) more.1)

-- pieces, and then the start of the next, are the start of all
start_at : (pieces : List (Bor (List ℕ))) (i n : ℕ) (d : Bor (List ℕ)) → i < length pieces
    → (m : ℕ) × (joined (take i pieces) ++ take n (get_or pieces i d).now ≡ take m (joined pieces))
start_at [] i n d lt = absurd (omega (arith, lt))
start_at (piece ∷ pieces) zero n d lt = start n piece.now (joined pieces)
start_at (piece ∷ pieces) (suc i) n d lt =
    let more = start_at pieces i n d (omega (arith, lt)) in (
      length piece.now + more.0,
      append_assoc piece.now (joined (take i pieces)) (take n (get_or pieces i d).now) ∙ ap (λ xs. piece.now ++ xs) more.1 ∙ sym (take-append-add piece.now (joined pieces) more.0),
    )

module _ (pieces : List (Bor (List ℕ))) (i : ℕ) (d : Bor (List ℕ)) (piece : List ℕ) (lt : i < length pieces) (is : piece ≡ (get_or pieces i d).now) (old mid new : List ℕ)
    (so_far : mid ≡ old ++ joined (take i pieces)) where
  -- a start of the next piece
  pub start_printed : (n : ℕ) × (new ≡ mid ++ take n piece) → (n : ℕ) × (new ≡ old ++ take n (joined pieces))
  start_printed printed =
      let n = printed.0 in
      let all = start_at pieces i n d lt in (
        all.0,
        printed.1 ∙ ap (λ xs. xs ++ take n piece) so_far ∙ append_assoc old (joined (take i pieces)) (take n piece)
            ∙ ap (λ p. old ++ (joined (take i pieces) ++ take n p)) is ∙ ap (λ xs. old ++ xs) all.1,
      )

-- one call fails at most once
pub fails_at_most_once : {T : Type 0} (before now : ℕ) (r : Result T Failed) → HasCause with_fault before now r → FailsAtMostOnce before now
fails_at_most_once before now (Ok a) cause = inl cause.ok
fails_at_most_once before now (Err failed.Fault) cause = inr (cause.fault refl)
fails_at_most_once before now (Err failed.OutOfMemory) cause = inl (cause.no_memory refl)
