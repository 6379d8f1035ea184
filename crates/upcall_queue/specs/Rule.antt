-- The rule of the queue: each upcall is put once and taken once, in the order of its putter.
use Rattle.std.specs.Prelude.{◌≡◌, ℕ, ◌+◌, ◌<◌, ◌≤◌, ◌==◌, ◌&&◌, Bool, true, false, List, [], ◌∷◌, ◌++◌, length, All, AllPairs, Some, slice_get, if◌then◌else◌, nat_lt}
use mathlib.Core.Option.{some}
use lib.ListN.{get_elem?}
use Rattle.upcall_queue.specs.declared.upcalls.upcall.Upcall.{Upcall}
use Rattle.upcall_queue.specs.declared.known.Taken.{Taken}
use Rattle.upcall_queue.specs.declared.known.Past.{Past}
use Rattle.upcall_queue.specs.declared.known.Known.{Known}

abbrev pub known : ℕ → ℕ → ℕ → List Upcall → List Taken → List Past → Known
known parts number passes puts took others = record { parts = parts; number = number; passes = passes; puts = puts; took = took; others = others }

-- the view of a pass that was taken in, and that of the first pass
abbrev pub spent : Known
spent = known 0 0 0 [] [] []

abbrev pub first : Known
first = known 1 0 1 [] [] []

abbrev pub past : Known → Past
past v = record { number = v.number; puts = v.puts; took = v.took }

-- a pass that wasn't taken in: the parts of it are itself and those that it took in
abbrev pub IsLive : Known → Type 0
IsLive v = v.parts ≡ length v.others + 1

-- what is left of a pass that made another, and the other
abbrev pub after_making : Known → Known
after_making v = known v.parts v.number (v.passes + 1) v.puts v.took v.others

abbrev pub made : Known → Known
made v = known 1 v.passes 0 [] [] []

-- a pass that has taken in another
abbrev pub joined : Known → Known → Known
joined v w = known (v.parts + w.parts) v.number (v.passes + w.passes) v.puts v.took (v.others ++ past w ∷ w.others)

-- the weights of a list's elements, added up
abbrev pub weigh : {A : Type 0} → (A → ℕ) → List A → ℕ
weigh h [] = 0
weigh h (x ∷ xs) = h x + weigh h xs

-- all that a pass and those in it put, and took, weighed
abbrev pub put_weight : (Upcall → ℕ) → Known → ℕ
put_weight h v = weigh h v.puts + weigh (λ (o : Past). weigh h o.puts) v.others

abbrev pub took_weight : (Taken → ℕ) → Known → ℕ
took_weight h v = weigh h v.took + weigh (λ (o : Past). weigh h o.took) v.others

-- 1 for what pass p put at place k, and else 0
abbrev pub is_at : ℕ → ℕ → Taken → ℕ
is_at p k t = if (t.putter == p) && (t.place == k) then 1 else 0

abbrev pub below : ℕ → ℕ → ℕ
below k n = if nat_lt k n then 1 else 0

-- of these (putter, place) pairs, the places of p
abbrev pub places_of : ℕ → List (ℕ × ℕ) → List ℕ
places_of p [] = []
places_of p (q ∷ qs) = if q.0 == p then q.1 ∷ places_of p qs else places_of p qs

-- the numbers from g up to n, with no gap
abbrev pub From : ℕ → List ℕ → ℕ → Type 0
From g [] n = g ≡ n
From g (k ∷ ks) n = (k ≡ g) × From (g + 1) ks n

-- each queued upcall stands at its place among its putter's puts
abbrev pub Stand : (ℕ → List Upcall) → List (ℕ × ℕ) → List Upcall → Type 0
Stand sent [] [] = Unit {0}
Stand sent (q ∷ qs) (x ∷ xs) = (slice_get (sent q.0) q.1 ≡ Some x) × Stand sent qs xs
Stand sent _ _ = ⊥

-- so does each that was taken, and it isn't queued any more
abbrev pub Sound : (ℕ → List Upcall) → (ℕ → ℕ) → List Taken → Type 0
Sound sent gone [] = Unit {0}
Sound sent gone (t ∷ ts) = (slice_get (sent t.putter) t.place ≡ Some t.item) × (t.place < gone t.putter) × Sound sent gone ts

abbrev pub Later : Taken → List Taken → Type 0
Later t [] = Unit {0}
Later t (u ∷ us) = (u.putter ≡ t.putter → t.place < u.place) × Later t us

-- the places of one putter rise
abbrev pub Rising : List Taken → Type 0
Rising [] = Unit {0}
Rising (t ∷ ts) = Later t ts × Rising ts

abbrev pub Pasts : (ℕ → List Upcall) → (ℕ → ℕ) → (ℕ → Bool) → List Past → Type 0
Pasts sent gone closed [] = Unit {0}
Pasts sent gone closed (o ∷ os) = (closed o.number ≡ true) × (o.puts ≡ sent o.number) × Sound sent gone o.took × Rising o.took × Pasts sent gone closed os

-- what a pass knows is so
abbrev pub Fits : (ℕ → List Upcall) → (ℕ → ℕ) → (ℕ → Bool) → ℕ → ℕ → ℕ → Known → Type 0
Fits sent gone closed maker passes seat v =
    (v.parts ≡ 0 → v ≡ spent)
    × (0 < v.parts → (v.number ≡ seat) × (closed seat ≡ false) × (v.puts ≡ sent seat))
    × Sound sent gone v.took × Rising v.took × Pasts sent gone closed v.others
    × (0 < v.passes → (seat ≡ maker) × (v.passes ≡ passes))

-- The rule, of the queued upcalls and of what each pass knows. There are: what each pass sent, how much of it has left the
-- queue, whose pass was taken in, which pass has the first one in it, and where each queued upcall stands.
pub record IsInTurn (items : List Upcall) (views : List Known) : Type 0 where
  pub sent : ℕ → List Upcall
  pub gone : ℕ → ℕ
  pub closed : ℕ → Bool
  pub maker : ℕ
  pub queue : List (ℕ × ℕ)
  pub parts : weigh (λ (v : Known). v.parts) views ≡ length views
  -- what was put is what was taken and what is queued, however weighed
  pub balanced : (h : Upcall → ℕ) → weigh (put_weight h) views ≡ weigh (took_weight (λ t. h t.item)) views + weigh h items
  -- each place that has left stands once among what was taken, and no other stands there
  pub once : (p k : ℕ) → weigh (took_weight (is_at p k)) views ≡ below k (gone p)
  -- each queued upcall stands at its place, and of each putter the queued places are the last ones, with no gap
  pub stand : Stand sent queue items
  pub runs : (p : ℕ) → From (gone p) (places_of p queue) (length (sent p))
  pub fits : (seat : ℕ) (v : Known) → get_elem? views seat ≡ some v → Fits sent gone closed maker (length views) seat v
  pub fresh : (p : ℕ) → length views ≤ p → (sent p ≡ []) × (closed p ≡ false)

-- what one of these passes took of another stands where the other put it
abbrev pub AreInPlace : List Past → Type 0
AreInPlace passes = All (λ (o : Past). All (λ (p : Past). All (λ (t : Taken). t.putter ≡ o.number → slice_get o.puts t.place ≡ Some t.item) p.took) passes) passes

-- in what each of these passes took, the places of one putter rise
abbrev pub AreRising : List Past → Type 0
AreRising passes = All (λ (p : Past). AllPairs (λ (t u : Taken). u.putter ≡ t.putter → t.place < u.place) p.took) passes

-- what a pass and those in it took
abbrev pub AreOrdered : List Past → Type 0
AreOrdered passes = AreInPlace passes × AreRising passes

-- the upcall was put
abbrev pub Puts : Known → Upcall → Known → Type 0
Puts v x w = w ≡ known v.parts v.number v.passes (v.puts ++ x ∷ []) v.took v.others

-- the upcall was taken: it is some putter's, at some place
abbrev pub Takes : Known → Upcall → Known → Type 0
Takes v x w =
    ((p : ℕ) × (k : ℕ) × (w ≡ known v.parts v.number v.passes v.puts (v.took ++ record { putter = p; place = k; item = x } ∷ []) v.others))
    × AreOrdered (past w ∷ w.others)

-- Where the pass has all others in it, what was put is what was taken and what is queued, however weighed; and what was
-- taken is in order.
abbrev pub Shows : Known → List Upcall → Type 0
Shows v items =
    (0 < v.passes → v.parts ≡ v.passes → (h : Upcall → ℕ) → put_weight h v ≡ took_weight (λ t. h t.item) v + weigh h items)
    × AreOrdered (past v ∷ v.others)
