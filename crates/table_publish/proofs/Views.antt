-- Each step of a publication keeps that no view is above the published version.
use Rattle.std.proofs.Common.{◌≡◌, ◌≢◌, ℕ, ◌+◌, ◌<◌, ◌≤◌, ◌==◌, Bool, true, false, if◌then◌else◌, max, List, [], ◌∷◌, fold, set, Result, Ok, Err, MatchResult, refl, sym, ap, ap₂, ◌∙◌, subst, ⊎_elim, le_refl, le_trans, zero-le, arith}
use Rattle.std.proofs.lemmas.Bool.{eq-eqb}
use mathlib.Core.Option.{some}
use lib.ListN.{get_elem?}
use Rattle.crossbeam_utils.specs.Register.{Admits, TurnsAt, Forks, Merges}
use Rattle.atomic_table.proofs.Lists.{at_set, at_snoc}
use Rattle.table_versions.specs.Next.{version_after}
use Rattle.table_publish.specs.Views.{NoneAbove, Comes, IsNextOrNone}

-- one view is changed, to one that is not above the published version
set_below : (n : ℕ) (views : List ℕ) (seat v : ℕ) → NoneAbove n views → v ≤ n → NoneAbove n (set views seat v)
set_below n views seat v h low j u e =
    ⊎_elim (λ (t : (j ≡ seat) × (v ≡ u)). subst (λ (z : ℕ). z ≤ n) t.1 low) (λ (t : (j ≢ seat) × (get_elem? views j ≡ some u)). h j u t.1) (at_set views seat j v u e)

after_le : (v n : ℕ) → v ≤ version_after v n
after_le v n = elim (n == v + 1) as (λ b. v ≤ (if b then v + 1 else v)) [ true ↦ omega arith | false ↦ le_refl v ]

-- no step lowers the version
pub le_fold : (v : ℕ) (numbers : List ℕ) → v ≤ fold version_after v numbers
le_fold v [] = le_refl v
le_fold v (n ∷ ns) = le_trans (after_le v n) (le_fold (version_after v n) ns)

-- the next version alone leads to it
after-next : (v : ℕ) → fold version_after v ((v + 1) ∷ []) ≡ v + 1
after-next v = ap (λ (b : Bool). if b then v + 1 else v) (eq-eqb (v + 1) (v + 1) refl)

-- the next version was pending, and what was pending was published
pub shows-next : {A B : Type 0} (result : Result A B) (x : A) (v last seen shown seen' shown' : ℕ) (pending pending' : List ℕ) (P Q : B → Type 0) → result ≡ Ok x
    → shown ≡ v → v < last → pending ≡ (v + 1) ∷ []
    → MatchResult result (λ _. (shown' ≡ fold version_after shown pending) × (pending' ≡ [])) P
    → MatchResult result (λ _. Comes seen shown shown' seen') Q
    → (seen' ≡ v + 1) × (shown' ≡ v + 1) × (v + 1 ≤ last) × IsNextOrNone (v + 1) pending'
shows-next (Ok y) x v last seen shown seen' shown' pending pending' P Q is at more next values sees =
    let made : shown' ≡ v + 1 = values.0 ∙ ap₂ (fold version_after) at next ∙ after-next v in
    (sees.1 ∙ made, made, omega (arith, more), subst (IsNextOrNone (v + 1)) (sym values.1) tt)
shows-next (Err e) x v last seen shown seen' shown' pending pending' P Q is at more next values sees = absurd (cc is)

-- the published values are of any type that tells a version
module _ {T : Type 0} (version : T → ℕ) where
  abbrev Holds : T → List ℕ → Type 0
  Holds published = NoneAbove (version published)

  -- a new view
  pub admits : Admits Holds 0
  admits x views h seat v at = ⊎_elim (h seat v) (λ (e : 0 ≡ v). subst (λ (z : ℕ). z ≤ version x) e zero-le) (at_snoc views 0 v seat at)

  -- a version is published that is no older, or seen
  pub comes : (seat v : ℕ) (x y : T) → version x ≤ version y → TurnsAt Holds seat v x y (λ v x y w. Comes v (version x) (version y) w)
  comes seat v x y up views h at = (
    version y,
    (λ j u e. ⊎_elim (λ (t : (j ≡ seat) × (version y ≡ u)). subst (λ (z : ℕ). z ≤ version y) t.1 (le_refl (version y))) (λ (t : (j ≢ seat) × (get_elem? views j ≡ some u)). le_trans (h j u t.1) up)
        (at_set views seat j (version y) u e)),
    (h seat v at, refl),
  )

  -- what is pending is published
  pub comes-pending : (seat v : ℕ) (x y : T) (pending : List ℕ) → version y ≡ fold version_after (version x) pending → TurnsAt Holds seat v x y (λ v x y w. Comes v (version x) (version y) w)
  comes-pending seat v x y pending is = comes seat v x y (subst (λ (n : ℕ). version x ≤ n) (sym is) (le_fold (version x) pending))

  -- a view is told
  pub tells : (seat v : ℕ) → Forks Holds seat v v v
  tells seat v x views h at j u e = ⊎_elim (set_below (version x) views seat v h (h seat v at) j u) (λ (same : v ≡ u). subst (λ (z : ℕ). z ≤ version x) same (h seat v at)) (at_snoc (set views seat v) v u j e)

  -- what was told is taken in
  pub learns : (seat v other w : ℕ) → Merges Holds seat v other w (max v w) 0
  learns seat v other w x views h at apart there =
      let mine = h seat v at in
      let told : w ≤ version x = ⊎_elim (λ (t : (other ≡ seat) × (max v w ≡ w)). absurd (apart t.0)) (λ (t : (other ≢ seat) × (get_elem? views other ≡ some w)). h other w t.1) (at_set views seat other (max v w) w there) in
      set_below (version x) (set views seat (max v w)) other 0 (set_below (version x) views seat (max v w) h (omega arith)) zero-le
