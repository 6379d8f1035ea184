-- Visits of what a list of actions sends, one action at a time.
use Rattle.std.proofs.Common.{◌≡◌, ℕ, ◌+◌, ◌*◌, List, [], ◌∷◌, length, true, false, cond, Result, Ok, Err, is_ok, OnOk, refl, arith}
use Rattle.std.specs.Prelude.{count_by}
use Rattle.std.specs.List.{FoldsTo}
use Rattle.std.proofs.lemmas.List.Sums.{sum_by-cons}
use Rattle.std.specs.Fn.{Mut, Called}
use Rattle.std.specs.Borrow.{Bor}
use Rattle.spec_actions.specs.declared.action.DpAction.{DpAction}
use Rattle.spec_actions.specs.declared.action.DpAction.TheVariants.{Output, PopVlan, PushVlan, Set}
use Rattle.spec_exec.specs.Rewriting.{after_action}
use Rattle.spec_exec.specs.Sent.{sent}
use Rattle.spec_frames.specs.Ethernet.{tag_size}
use Rattle.action_exec.specs.Visits.{is_push, growth, IsVisitedAt}

sent-other : (action : DpAction) (rest : List DpAction) (frame : List ℕ) → ((port : ℕ) → action ≡ Output port → ⊥)
    → sent (action ∷ rest) frame ≡ sent rest (after_action action frame)
unfolding sent
sent-other (Output port) rest frame other = absurd (other port refl)
sent-other PopVlan rest frame other = refl
sent-other (PushVlan tpid tci) rest frame other = refl
sent-other (Set field value mask) rest frame other = refl

module _ {F : Type 0} (g : Mut F (ℕ × (Bor (List ℕ) × Unit {0})) (Unit {0})) where
  abbrev pub Visits : F → List DpAction → List ℕ → F → Type 0
  Visits before list frame after = FoldsTo (IsVisitedAt g) before (sent list frame) after

  pub no-visits : (f : F) (list : List DpAction) (frame : List ℕ) → length list ≡ 0 → Visits f list frame f
  unfolding sent
  no-visits f [] frame e = refl
  no-visits f (action ∷ list) frame e = absurd (omega arith)

  pub visits-output : (before next after : F) (list rest : List DpAction) (port : ℕ) (shown : Bor (List ℕ)) → list ≡ Output port ∷ rest
      → Called g before (port, (shown, tt)) tt next → Visits next rest shown.now after → Visits before list shown.now after
  unfolding sent
  visits-output before next after list rest port shown e called others =
      rw e (next, record { shown = shown; shows = refl; called = called }, others)

  pub visits-other : (before after : F) (list rest : List DpAction) (action : DpAction) (frame : List ℕ) → list ≡ action ∷ rest
      → ((port : ℕ) → action ≡ Output port → ⊥) → Visits before rest (after_action action frame) after → Visits before list frame after
  visits-other before after list rest action frame e other others = rw (e, sent-other action rest frame other) others

pub when_ok : {A B : Type 0} (r : Result A B) (P : Type 0) → true ≡ is_ok r → OnOk r P → P
when_ok (Ok x) P ok h = h
when_ok (Err x) P ok h = absurd (true-false ok)
  where
    true-false : true ≡ false → ⊥
    true-false e = cc

-- the room that the tags of a list need, one action at a time
pub room-cons : (list rest : List DpAction) (action : DpAction) → list ≡ action ∷ rest
    → tag_size * count_by is_push list ≡ growth action + tag_size * count_by is_push rest
room-cons list rest action e = rw e (by action)
  where
    one : (action : DpAction) → count_by is_push (action ∷ rest) ≡ cond (is_push action) 1 0 + count_by is_push rest
    one action = sum_by-cons (λ x. cond (is_push x) 1 0) action rest

    by : (action : DpAction) → tag_size * count_by is_push (action ∷ rest) ≡ growth action + tag_size * count_by is_push rest
    by (Output port) = omega (arith, one (Output port))
    by PopVlan = omega (arith, one PopVlan)
    by (PushVlan tpid tci) = omega (arith, one (PushVlan tpid tci))
    by (Set field value mask) = omega (arith, one (Set field value mask))
