-- What passes took is in order where the rule has it so.
use Rattle.std.proofs.Common.{◌≡◌, ℕ, zero, suc, ◌<◌, Bool, List, [], ◌∷◌, All, AllPairs, Some, slice_get, sym, ap, ◌∙◌, arith}
use Rattle.upcall_queue.specs.declared.upcalls.upcall.Upcall.{Upcall}
use Rattle.upcall_queue.specs.declared.known.Taken.{Taken}
use Rattle.upcall_queue.specs.declared.known.Past.{Past}
use Rattle.upcall_queue.specs.Rule.{Sound, Later, Rising, Pasts, AreRising, AreOrdered}

-- what is so of each element of a list, by its recursion
abbrev Each : {A : Type 0} → (A → Type 0) → List A → Type 0
Each P [] = Unit {0}
Each P (x ∷ xs) = P x × Each P xs

all_of : {A : Type 0} (P : A → Type 0) (xs : List A) → Each P xs → All P xs
all_of P [] h k d less = absurd (omega arith)
all_of P (x ∷ xs) h zero d less = h.0
all_of P (x ∷ xs) h (suc k) d less = all_of P xs h.1 k d (omega arith)

-- a taken upcall stands where it was put
abbrev StandsAt : (ℕ → List Upcall) → Taken → Type 0
StandsAt sent t = slice_get (sent t.putter) t.place ≡ Some t.item

stands : (sent : ℕ → List Upcall) (gone : ℕ → ℕ) (ts : List Taken) → Sound sent gone ts → Each (StandsAt sent) ts
stands sent gone [] h = tt
stands sent gone (t ∷ ts) h = (h.0, stands sent gone ts h.2)

abbrev Rises : Taken → Taken → Type 0
Rises t u = u.putter ≡ t.putter → t.place < u.place

later_all : (t : Taken) (us : List Taken) → Later t us → All (Rises t) us
later_all t [] h k d less = absurd (omega arith)
later_all t (u ∷ us) h zero d less = h.0
later_all t (u ∷ us) h (suc k) d less = later_all t us h.1 k d (omega arith)

rising_pairs : (ts : List Taken) → Rising ts → AllPairs Rises ts
rising_pairs [] h i j d before less = absurd (omega arith)
rising_pairs (t ∷ ts) h i zero d before less = absurd (omega arith)
rising_pairs (t ∷ ts) h zero (suc j) d before less = later_all t ts h.0 j d (omega arith)
rising_pairs (t ∷ ts) h (suc i) (suc j) d before less = rising_pairs ts h.1 i j d (omega arith) (omega arith)

-- what the rule has of each pass: what it put is what it sent, and what it took stands where it was put, and rises
abbrev IsKnown : (ℕ → List Upcall) → Past → Type 0
IsKnown sent o = (o.puts ≡ sent o.number) × Each (StandsAt sent) o.took × Rising o.took

known_pasts : (sent : ℕ → List Upcall) (gone : ℕ → ℕ) (closed : ℕ → Bool) (os : List Past) → Pasts sent gone closed os → Each (IsKnown sent) os
known_pasts sent gone closed [] h = tt
known_pasts sent gone closed (o ∷ os) h = ((h.1, stands sent gone o.took h.2, h.3), known_pasts sent gone closed os h.4)

-- of one putter's puts and one pass's taken upcalls
in_place : (sent : ℕ → List Upcall) (o : Past) (ts : List Taken) → o.puts ≡ sent o.number → Each (StandsAt sent) ts → All (λ (t : Taken). t.putter ≡ o.number → slice_get o.puts t.place ≡ Some t.item) ts
in_place sent o [] puts h k d less = absurd (omega arith)
in_place sent o (t ∷ ts) puts h zero d less = λ same. ap (λ (l : List Upcall). slice_get l t.place) (puts ∙ ap sent (sym same)) ∙ h.0
in_place sent o (t ∷ ts) puts h (suc k) d less = in_place sent o ts puts h.1 k d (omega arith)

all_in_place : (sent : ℕ → List Upcall) (o : Past) (os : List Past) → o.puts ≡ sent o.number → Each (IsKnown sent) os
    → All (λ (p : Past). All (λ (t : Taken). t.putter ≡ o.number → slice_get o.puts t.place ≡ Some t.item) p.took) os
all_in_place sent o [] puts h k d less = absurd (omega arith)
all_in_place sent o (p ∷ os) puts h zero d less = in_place sent o p.took puts h.0.1
all_in_place sent o (p ∷ os) puts h (suc k) d less = all_in_place sent o os puts h.1 k d (omega arith)

each_in_place : (sent : ℕ → List Upcall) (os all : List Past) → Each (IsKnown sent) os → Each (IsKnown sent) all
    → All (λ (o : Past). All (λ (p : Past). All (λ (t : Taken). t.putter ≡ o.number → slice_get o.puts t.place ≡ Some t.item) p.took) all) os
each_in_place sent [] all h k i d less = absurd (omega arith)
each_in_place sent (o ∷ os) all h k zero d less = all_in_place sent o all h.0.0 k
each_in_place sent (o ∷ os) all h k (suc i) d less = each_in_place sent os all h.1 k i d (omega arith)

each_rises : (sent : ℕ → List Upcall) (os : List Past) → Each (IsKnown sent) os → AreRising os
each_rises sent [] h k d less = absurd (omega arith)
each_rises sent (o ∷ os) h zero d less = rising_pairs o.took h.0.2
each_rises sent (o ∷ os) h (suc k) d less = each_rises sent os h.1 k d (omega arith)

-- a pass, and those in it
pub ordered : (sent : ℕ → List Upcall) (gone : ℕ → ℕ) (closed : ℕ → Bool) (o : Past) (os : List Past) → o.puts ≡ sent o.number → Sound sent gone o.took → Rising o.took → Pasts sent gone closed os → AreOrdered (o ∷ os)
ordered sent gone closed o os puts sound rising pasts =
    let known : Each (IsKnown sent) (o ∷ os) = ((puts, stands sent gone o.took sound, rising), known_pasts sent gone closed os pasts) in (
      each_in_place sent (o ∷ os) (o ∷ os) known known,
      each_rises sent (o ∷ os) known,
    )
