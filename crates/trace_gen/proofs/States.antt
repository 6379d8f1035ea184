-- Draws one after the other.
use Rattle.std.proofs.Common.{◌≡◌, ℕ, zero, suc, ◌+◌, refl, ap, ◌∙◌, arith}
use Rattle.std.specs.Fn.{iterate}
use Rattle.spec_input.specs.Made.{after, state, draw, drawn}

iterate-on : (x m k : ℕ) → iterate after k (iterate after m x) ≡ iterate after (m + k) x
iterate-on x zero k =
    let none : k ≡ zero + k = omega arith in
    ap (λ n. iterate after n x) none
iterate-on x (suc m) k =
    let next : suc (m + k) ≡ suc m + k = omega arith in
    iterate-on (after x) m k ∙ ap (λ n. iterate after n x) next

state-on : (x m k : ℕ) → state (state x m) k ≡ state x (m + k)
unfolding state
state-on x m k = iterate-on x m k

-- a state that comes so many draws after another
pub state-at : (x m k s t : ℕ) → s ≡ state x m → t ≡ state s k → t ≡ state x (m + k)
state-at x m k s t at is = is ∙ (ap (λ s. state s k) at ∙ state-on x m k)

pub state-none : (x : ℕ) → x ≡ state x 0
unfolding state
state-none x = refl

pub state-next : (x m s t : ℕ) → s ≡ state x m → t ≡ after s → t ≡ state x (m + 1)
unfolding state
state-next x m s t at is = is ∙ (ap after at ∙ state-on x m 1)

-- what is drawn after a state
pub draw-at : (x m k s : ℕ) → s ≡ state x m → draw s k ≡ draw x (m + k)
draw-at x m k s at = ap (λ s. draw s k) at ∙ ap drawn (state-on x m k)
