use Rattle.std.proofs.Common.{◌≡◌, ℕ, Bool, true, false, List, [], ◌∷◌, Option, Some, None, All, refl, sym, subst, arith}
use Rattle.std.specs.Prelude.{IsSome, nat_lt}
use Rattle.std.specs.List.{find}
use Rattle.std.specs.Option.{option_map}
use Rattle.std.proofs.lemmas.Option.{none-some}
use Rattle.std.proofs.lemmas.List.Elements.{All-tail}
use Rattle.spec_case.specs.Run.{Run}
use Rattle.spec_board.specs.State as states
use Rattle.spec_board.specs.Results.{entry_of}
use Rattle.pmd_board.specs.BoardView.{state_of}
use Rattle.pmd_board.specs.Fields.{view_of}
use Rattle.pmd_board.proofs.board.Board.next_check.Goals as goal

-- what holds of all holds of the one that is found
found_has : (P : ℕ → Type 0) (p : ℕ → Bool) (ns : List ℕ) (n : ℕ) → All P ns → find p ns ≡ Some n → P n
found_has P p [] n all e = absurd (none-some n e)
found_has P p (m ∷ ns) n all e = at (p m) refl e (found_has P p ns n (All-tail P m ns all))
  where
    at : (t : Bool) → p m ≡ t → find p (m ∷ ns) ≡ Some n → (find p ns ≡ Some n → P n) → P n
    at true is e others = subst P (cc (rw is at e)) (all 0 m (omega arith))
    at false is e others = others (rw is at e)

-- a key that isn't there is one of no entry
no_entry : (o : Option states.Entry) → None ≡ option_map (λ (e : states.Entry). e.key) o → IsSome o → ⊥
no_entry None none some = absurd (cc some)
no_entry (Some e) none some = absurd (cc none)

pub unreachable-requires : goal.unreachable-requires
unreachable-requires g c =
    let run : Run = g.C.Case.run in
    let b = c.self.inside in
    let k = c.self.invariant in
    let s : states.State = state_of run (view_of b) in
    let n = c.in_ok-number.number in
    let found : find (λ m. nat_lt c.args.after m) b.listed ≡ Some n = sym c.in_ok-number.ensures in
    let live : IsSome (entry_of n s.entries) = found_has (λ m. IsSome (entry_of m s.entries)) (λ m. nat_lt c.args.after m) b.listed n (subst (All (λ m. IsSome (entry_of m s.entries))) k.caches.listed k.lawful.listed) found in
    no_entry (entry_of n b.caches.entries) c.in-None.ensures (subst (λ (es : List states.Entry). IsSome (entry_of n es)) k.caches.caches.entries live)
