-- From what the kit's queue says of a step to what contracts see of it.
use Rattle.std.proofs.Common.{◌≡◌, ℕ, ◌<◌, ◌≤◌, ◌-◌, [], ◌∷◌, ◌++◌, Option, Some, None, Result, Ok, Err, MatchOption, IfSome, IfNone, OnErr, MatchResult, ap, ap₂, ◌∙◌, subst, arith}
use Rattle.atomic_table.specs.Seated.{TableId}
use Rattle.crossbeam_queue.specs.Fifo.{Held}
use Rattle.upcall_queue.specs.declared.upcalls.upcall.Upcall.{Upcall}
use Rattle.upcall_queue.specs.declared.known.Known.{Known}
use Rattle.upcall_queue.specs.Rule.{IsLive, Takes, Shows}
use Rattle.upcall_queue.specs.Views.{PassView, view_of, HasAll, Accounts, AreAllTaken, took}
use Rattle.upcall_queue.proofs.Counts.{held_accounts, all_taken}

pub live_parts : (v : Known) → IsLive v → 0 < v.parts
live_parts v live = omega arith

-- what a pop says
abbrev Pop : Option Upcall → Known → Known → Type 0
Pop result v w = MatchOption result ((w ≡ v) × Held 0 (Shows v)) (λ x. Takes v x w)

pub pop_taken : (result : Option Upcall) (queue queue' : TableId) (refused : ℕ) (v w : Known) (before : PassView) → queue' ≡ queue → view_of queue refused v ≡ before → Pop result v w
    → IfSome result (λ u. (putter : ℕ) × (place : ℕ) × (view_of queue' refused w ≡ record before { took = before.took ++ took putter place u ∷ [] }))
pop_taken None queue queue' refused v w before same is step = tt
pop_taken (Some u) queue queue' refused v w before same is step = (
  step.0.0,
  step.0.1,
  ap₂ (λ (q : TableId) (h : Known). view_of q refused h) same step.0.2 ∙ ap (λ (b : PassView). record b { took = b.took ++ took step.0.0 step.0.1 u ∷ [] }) is,
)

pub pop_empty : (result : Option Upcall) (queue : TableId) (refused : ℕ) (v w : Known) (before : PassView) → view_of queue refused v ≡ before → IsLive v → Pop result v w
    → IfNone result (Held 0 (Accounts before))
pop_empty None queue refused v w before is live step = subst (λ (b : PassView). Held 0 (Accounts b)) is (held_accounts queue refused v 0 live step.1)
pop_empty (Some u) queue refused v w before is live step = tt

pub pop_all : (result : Option Upcall) (queue : TableId) (refused : ℕ) (v w : Known) (before : PassView) → view_of queue refused v ≡ before → IsLive v → Pop result v w
    → IfNone result (HasAll before → AreAllTaken before)
pop_all None queue refused v w before is live step = subst (λ (b : PassView). HasAll b → AreAllTaken b) is (all_taken queue refused v live step.1)
pop_all (Some u) queue refused v w before is live step = tt

pub push_full : {A : Type 0} (result : Result A Upcall) (Put : Type 0) (Back : Upcall → Type 0) (n n' : ℕ) (queue : TableId) (refused : ℕ) (v w : Known) (before : PassView) → n ≡ n' → view_of queue refused v ≡ before → IsLive v
    → MatchResult result (λ _. Put) (λ x. Back x × (w ≡ v) × Held n (Shows v)) → OnErr result (Held n' (Accounts before))
push_full (Ok a) Put Back n n' queue refused v w before room is live step = tt
push_full (Err u) Put Back n n' queue refused v w before room is live step = subst (λ (m : ℕ). Held m (Accounts before)) room (subst (λ (b : PassView). Held n (Accounts b)) is (held_accounts queue refused v n live step.2))

-- what a look says: what there is no room for is queued
pub room_left : (queued told capacity capacity' : ℕ) (queue : TableId) (refused : ℕ) (v : Known) (before : PassView) → told ≡ capacity → capacity ≡ capacity' → view_of queue refused v ≡ before → IsLive v
    → (queued ≤ capacity) × Held queued (Shows v) → Held (capacity' - (told - queued)) (Accounts before)
room_left queued told capacity capacity' queue refused v before asked same is live look =
    let count : queued ≡ capacity' - (told - queued) = omega (arith, asked, same, look.0) in
    subst (λ (n : ℕ). Held n (Accounts before)) count (subst (λ (b : PassView). Held queued (Accounts b)) is (held_accounts queue refused v queued live look.1))
