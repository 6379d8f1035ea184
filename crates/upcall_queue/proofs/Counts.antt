-- From the weights of the rule to how often an upcall stands in a list.
use Rattle.std.proofs.Common.{◌≡◌, ℕ, List, [], ◌∷◌, ◌++◌, length, map, flat_map, refl, ◌∙◌, arith}
use Rattle.atomic_table.specs.Seated.{TableId}
use Rattle.crossbeam_queue.specs.Fifo.{Held}
use Rattle.upcall_queue.specs.declared.upcalls.upcall.Upcall.{Upcall}
use Rattle.upcall_queue.specs.declared.known.Taken.{Taken}
use Rattle.upcall_queue.specs.declared.known.Past.{Past}
use Rattle.upcall_queue.specs.declared.known.Known.{Known}
use Rattle.upcall_queue.specs.Rule.{weigh, IsLive, Shows}
use Rattle.upcall_queue.specs.Views.{view_of, HasAll, is_same, Accounts, AreAllTaken}
use Rattle.upcall_queue.proofs.Lists.{weigh_append}

weigh_flat : {A B : Type 0} (h : B → ℕ) (f : A → List B) (xs : List A) → weigh h (flat_map f xs) ≡ weigh (λ x. weigh h (f x)) xs
weigh_flat h f [] = refl
weigh_flat h f (x ∷ xs) = omega (arith, weigh_append h (f x) (flat_map f xs), weigh_flat h f xs)

weigh_map : {A B : Type 0} (h : B → ℕ) (f : A → B) (xs : List A) → weigh h (map f xs) ≡ weigh (λ x. h (f x)) xs
weigh_map h f [] = refl
weigh_map h f (x ∷ xs) = omega (arith, weigh_map h f xs)

weigh_none : {A : Type 0} (h : A → ℕ) (xs : List A) → length xs ≡ 0 → weigh h xs ≡ 0
weigh_none h [] none = refl
weigh_none h (x ∷ xs) none = absurd (omega arith)

-- what a pass is shown of the queue, as contracts see it
pub accounts : (queue : TableId) (refused : ℕ) (v : Known) (items : List Upcall) → IsLive v → Shows v items → Accounts (view_of queue refused v) items
accounts queue refused v items live shows has u =
    let h : Upcall → ℕ = is_same u in
    let even = shows.0 has.0 (live ∙ has.1) h in
    let puts = weigh_append h v.puts (flat_map (λ (o : Past). o.puts) v.others) in
    let puts_in = weigh_flat h (λ (o : Past). o.puts) v.others in
    let item : Taken → Upcall = λ t. t.item in
    let taken = v.took ++ flat_map (λ (o : Past). o.took) v.others in
    let took = weigh_map h item taken in
    let took_apart = weigh_append (λ (t : Taken). h t.item) v.took (flat_map (λ (o : Past). o.took) v.others) in
    let took_in = weigh_flat (λ (t : Taken). h t.item) (λ (o : Past). o.took) v.others in
    omega arith

pub held_accounts : (queue : TableId) (refused : ℕ) (v : Known) (n : ℕ) → IsLive v → Held n (Shows v) → Held n (Accounts (view_of queue refused v))
held_accounts queue refused v n live h = (h.0, h.1, accounts queue refused v h.0 live h.2)

pub all_taken : (queue : TableId) (refused : ℕ) (v : Known) → IsLive v → Held 0 (Shows v) → HasAll (view_of queue refused v) → AreAllTaken (view_of queue refused v)
all_taken queue refused v live h has u =
    let even = accounts queue refused v h.0 live h.2 has u in
    let none = weigh_none (is_same u) h.0 h.1 in
    omega arith
