-- Lists of actions that are held and added.
use Rattle.std.proofs.Common.{◌≡◌, ℕ, zero, suc, ◌<◌, true, List, [], ◌∷◌, ◌++◌, length, get_or, Some, refl, sym, ap, arith}
use Rattle.std.specs.Prelude.{slice_get, slice_set}
use Rattle.std.proofs.lemmas.Option.{none-some, same_Some}
use Rattle.spec_actions.specs.declared.action.DpAction.{DpAction}
use Rattle.port_caches.specs.declared.lists.HeldList.{HeldList}
use Rattle.port_caches.specs.Lists.{actions_at, IsHeld, KeepsHeld}

-- a list with these actions that a decided frame names
abbrev pub held_list : List DpAction → HeldList
held_list actions = record { actions = actions; held = true }

pub held_actions : (lists : List HeldList) (k n : ℕ) → k < length lists → actions_at (slice_set lists k (held_list (actions_at lists k))) n ≡ actions_at lists n
held_actions [] k n lt = absurd (omega arith)
held_actions (l ∷ lists) zero zero lt = refl
held_actions (l ∷ lists) zero (suc n) lt = refl
held_actions (l ∷ lists) (suc k) zero lt = refl
held_actions (l ∷ lists) (suc k) (suc n) lt = held_actions lists k n (omega arith)

pub held_there : (lists : List HeldList) (k : ℕ) (l : HeldList) → k < length lists → slice_get (slice_set lists k l) k ≡ Some l
held_there [] k l lt = absurd (omega arith)
held_there (x ∷ xs) zero l lt = refl
held_there (x ∷ xs) (suc k) l lt = held_there xs k l (omega arith)

pub held_stay : (lists : List HeldList) (k : ℕ) → KeepsHeld lists (slice_set lists k (held_list (actions_at lists k)))
held_stay [] k n actions is = is
held_stay (l ∷ lists) zero zero actions is = ap (λ (x : HeldList). Some (held_list x.actions)) (same_Some l (held_list actions) is)
held_stay (l ∷ lists) zero (suc n) actions is = is
held_stay (l ∷ lists) (suc k) zero actions is = is
held_stay (l ∷ lists) (suc k) (suc n) actions is = held_stay lists k n actions is

pub pushed_actions : (lists : List HeldList) (l : HeldList) (n : ℕ) → n < length lists → actions_at (lists ++ l ∷ []) n ≡ actions_at lists n
pushed_actions [] l n lt = absurd (omega arith)
pushed_actions (x ∷ xs) l zero lt = refl
pushed_actions (x ∷ xs) l (suc n) lt = pushed_actions xs l n (omega arith)

pub pushed_there : (lists : List HeldList) (l : HeldList) → slice_get (lists ++ l ∷ []) (length lists) ≡ Some l
pushed_there [] l = refl
pushed_there (x ∷ xs) l = pushed_there xs l

pub pushed_stay : (lists : List HeldList) (l : HeldList) → KeepsHeld lists (lists ++ l ∷ [])
pushed_stay [] l n actions is = absurd (none-some (held_list actions) is)
pushed_stay (x ∷ xs) l zero actions is = is
pushed_stay (x ∷ xs) l (suc n) actions is = pushed_stay xs l n actions is

-- a list that is held has its actions
pub held_has : (lists : List HeldList) (n : ℕ) (actions : List DpAction) → IsHeld lists n actions → actions_at lists n ≡ actions
held_has [] n actions is = absurd (none-some (held_list actions) is)
held_has (x ∷ xs) zero actions is = ap (λ (l : HeldList). l.actions) (same_Some x (held_list actions) is)
held_has (x ∷ xs) (suc n) actions is = held_has xs n actions is

-- a list that was read
pub read_actions : (lists : List HeldList) (n : ℕ) (l : HeldList) → n < length lists → l ≡ get_or lists n l → actions_at lists n ≡ l.actions
read_actions [] n l lt is = absurd (omega arith)
read_actions (x ∷ xs) zero l lt is = ap (λ (y : HeldList). y.actions) (sym is)
read_actions (x ∷ xs) (suc n) l lt is = read_actions xs n l (omega arith) is
