-- What contracts see of a queue and of its passes.
use Rattle.std.specs.Prelude.{◌≡◌, ℕ, ◌+◌, ◌-◌, ◌^◌, ◌<◌, ◌==◌, ◌&&◌, min, List, [], ◌∷◌, ◌++◌, length, map, flat_map, if◌then◌else◌}
use Rattle.atomic_table.specs.Seated.{TableId}
use Rattle.upcall_queue.specs.declared.upcalls.upcall.Upcall.{Upcall}
use Rattle.upcall_queue.specs.declared.known.Taken.{Taken}
use Rattle.upcall_queue.specs.declared.known.Past.{Past}
use Rattle.upcall_queue.specs.declared.known.Known.{Known}
use Rattle.upcall_queue.specs.Rule.{weigh, AreOrdered}

-- which queue it is, and for how many upcalls it has room
pub record QueueView : Type 0 where
  pub name : TableId
  pub capacity : ℕ

-- Of which queue the pass is, and its number among the passes. How many passes there are, or 0 where the first pass isn't
-- in it. What it put, how many pushes were refused, what it took, and the passes that it has taken in.
pub record PassView : Type 0 where
  pub queue : TableId
  pub number : ℕ
  pub passes : ℕ
  pub puts : List Upcall
  pub refused : ℕ
  pub took : List Taken
  pub others : List Past

abbrev pub view_of : TableId → ℕ → Known → PassView
view_of queue refused v = record { queue = queue; number = v.number; passes = v.passes; puts = v.puts; refused = refused; took = v.took; others = v.others }

-- a pass of a queue, by which nothing was done yet
abbrev pub IsNewPass : QueueView → PassView → Type 0
IsNewPass queue v = (v.queue ≡ queue.name) × (v.puts ≡ []) × (v.refused ≡ 0) × (v.took ≡ []) × (v.others ≡ [])

-- passes are numbered one after the other, from n on
abbrev pub AreNumbered : ℕ → List PassView → Type 0
AreNumbered n [] = Unit {0}
AreNumbered n (v ∷ vs) = (v.number ≡ n) × AreNumbered (n + 1) vs

-- an upcall that was taken, with its putter and its place among that putter's puts
abbrev pub took : ℕ → ℕ → Upcall → Taken
took putter place upcall = record { putter = putter; place = place; item = upcall }

-- the lists of a pass
abbrev pub past_of : PassView → Past
past_of v = record { number = v.number; puts = v.puts; took = v.took }

-- a count after one more, which stops at its type's end
abbrev pub one_more : ℕ → ℕ
one_more count = min (count + 1) (2 ^ 64 - 1)

-- Of the pass and those that it has taken in: what one took of another stands where the other put it, and the places of
-- one putter rise in what was taken.
abbrev pub IsInOrder : PassView → Type 0
IsInOrder v = AreOrdered (past_of v ∷ v.others)

-- the pass has taken in all the others
abbrev pub HasAll : PassView → Type 0
HasAll v = (0 < v.passes) × (length v.others + 1 ≡ v.passes)

-- what the pass and those in it put, and what they took
abbrev pub all_puts : PassView → List Upcall
all_puts v = v.puts ++ flat_map (λ (o : Past). o.puts) v.others

abbrev pub all_took : PassView → List Upcall
all_took v = map (λ (t : Taken). t.item) (v.took ++ flat_map (λ (o : Past). o.took) v.others)

-- 1 where both upcalls are the same, and else 0
abbrev pub is_same : Upcall → Upcall → ℕ
is_same u w = if (w.port == u.port) && (w.place == u.place) then 1 else 0

-- how often an upcall stands in a list
abbrev pub times : Upcall → List Upcall → ℕ
times u us = weigh (is_same u) us

-- where the pass has taken in all the others, each upcall was put as often as it was taken and is queued
abbrev pub Accounts : PassView → List Upcall → Type 0
Accounts v queued = HasAll v → (u : Upcall) → times u (all_puts v) ≡ times u (all_took v) + times u queued

-- each upcall was taken as often as it was put
abbrev pub AreAllTaken : PassView → Type 0
AreAllTaken v = (u : Upcall) → times u (all_took v) ≡ times u (all_puts v)
