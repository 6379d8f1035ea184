-- Each step keeps the rule.
use Rattle.std.proofs.Common.{◌≡◌, ◌≢◌, ℕ, zero, suc, ◌+◌, ◌<◌, ◌≤◌, ◌==◌, Bool, true, false, true≢false, List, [], ◌∷◌, ◌++◌, length, set, Some, slice_get, if◌then◌else◌, nat_lt, refl, sym, ap, ◌∙◌, subst, ⊎_elim, arith}
use mathlib.Core.Option.{some, some-injective, some-ne-none}
use lib.ListN.{get_elem?}
use Rattle.std.proofs.lemmas.Bool.Decides.{nat_tests}
use Rattle.crossbeam_queue.specs.Fifo.{Pushes, Pops, Forks, Merges, Learns}
use Rattle.crossbeam_queue.proofs.Lists.{at_set}
use Rattle.upcall_queue.specs.declared.upcalls.upcall.Upcall.{Upcall}
use Rattle.upcall_queue.specs.declared.known.Taken.{Taken}
use Rattle.upcall_queue.specs.declared.known.Past.{Past}
use Rattle.upcall_queue.specs.declared.known.Known.{Known}
use Rattle.upcall_queue.specs.Rule.{known, spent, first, past, after_making, made, joined, weigh, put_weight, took_weight, is_at, below, places_of, From, Stand, Sound, Later, Rising, Pasts, Fits, IsInTurn, Puts, Takes, Shows}
use Rattle.upcall_queue.proofs.Orders.{ordered}
use Rattle.upcall_queue.proofs.Lists.{weigh_append, weigh_set, at_below, at_end, length_set, length_snoc, get_more, get_last, upd, upd_same, upd_else, by_cases}

-- sent' has what sent has, at the same places
abbrev Grow : (ℕ → List Upcall) → (ℕ → List Upcall) → Type 0
Grow sent sent' = (p k : ℕ) (x : Upcall) → slice_get (sent p) k ≡ Some x → slice_get (sent' p) k ≡ Some x

stand_grow : (sent sent' : ℕ → List Upcall) → Grow sent sent' → (qs : List (ℕ × ℕ)) (xs : List Upcall) → Stand sent qs xs → Stand sent' qs xs
stand_grow sent sent' up [] [] h = tt
stand_grow sent sent' up [] (x ∷ xs) h = absurd h
stand_grow sent sent' up (q ∷ qs) [] h = absurd h
stand_grow sent sent' up (q ∷ qs) (x ∷ xs) h = (up q.0 q.1 x h.0, stand_grow sent sent' up qs xs h.1)

stand_snoc : (sent : ℕ → List Upcall) (qs : List (ℕ × ℕ)) (xs : List Upcall) (q : ℕ × ℕ) (x : Upcall) → Stand sent qs xs → slice_get (sent q.0) q.1 ≡ Some x → Stand sent (qs ++ q ∷ []) (xs ++ x ∷ [])
stand_snoc sent [] [] q x h at = (at, tt)
stand_snoc sent [] (y ∷ ys) q x h at = absurd h
stand_snoc sent (r ∷ rs) [] q x h at = absurd h
stand_snoc sent (r ∷ rs) (y ∷ ys) q x h at = (h.0, stand_snoc sent rs ys q x h.1 at)

stand_front : (sent : ℕ → List Upcall) (qs : List (ℕ × ℕ)) (x : Upcall) (xs : List Upcall) → Stand sent qs (x ∷ xs)
    → (p : ℕ) × (k : ℕ) × (rest : List (ℕ × ℕ)) × (qs ≡ (p, k) ∷ rest) × (slice_get (sent p) k ≡ Some x) × Stand sent rest xs
stand_front sent [] x xs h = absurd h
stand_front sent (q ∷ qs) x xs h = (q.0, q.1, qs, refl, h.0, h.1)

sound_grow : (sent sent' : ℕ → List Upcall) (gone gone' : ℕ → ℕ) → Grow sent sent' → ((p : ℕ) → gone p ≤ gone' p) → (ts : List Taken) → Sound sent gone ts → Sound sent' gone' ts
sound_grow sent sent' gone gone' up more [] h = tt
sound_grow sent sent' gone gone' up more (t ∷ ts) h = (up t.putter t.place t.item h.0, (let m = more t.putter in let l = h.1 in omega arith), sound_grow sent sent' gone gone' up more ts h.2)

sound_snoc : (sent : ℕ → List Upcall) (gone : ℕ → ℕ) (ts : List Taken) (t : Taken) → Sound sent gone ts → slice_get (sent t.putter) t.place ≡ Some t.item → t.place < gone t.putter → Sound sent gone (ts ++ t ∷ [])
sound_snoc sent gone [] t h at le = (at, le, tt)
sound_snoc sent gone (u ∷ us) t h at le = (h.0, h.1, sound_snoc sent gone us t h.2 at le)

later_snoc : (u : Taken) (ts : List Taken) (t : Taken) → Later u ts → (t.putter ≡ u.putter → u.place < t.place) → Later u (ts ++ t ∷ [])
later_snoc u [] t h last = (last, tt)
later_snoc u (v ∷ vs) t h last = (h.0, later_snoc u vs t h.1 last)

rising_snoc : (sent : ℕ → List Upcall) (gone : ℕ → ℕ) (ts : List Taken) (t : Taken) → Sound sent gone ts → Rising ts → t.place ≡ gone t.putter → Rising (ts ++ t ∷ [])
rising_snoc sent gone [] t s r is = (tt, tt)
rising_snoc sent gone (u ∷ us) t s r is = (
  later_snoc u us t r.0 (λ same. let l = s.1 in let g : gone t.putter ≡ gone u.putter = ap gone same in omega arith),
  rising_snoc sent gone us t s.2 r.1 is,
)

pasts_grow : (sent sent' : ℕ → List Upcall) (gone gone' : ℕ → ℕ) (closed closed' : ℕ → Bool) → Grow sent sent' → ((p : ℕ) → gone p ≤ gone' p)
    → ((p : ℕ) → closed p ≡ true → (closed' p ≡ true) × (sent' p ≡ sent p)) → (os : List Past) → Pasts sent gone closed os → Pasts sent' gone' closed' os
pasts_grow sent sent' gone gone' closed closed' up more ended [] h = tt
pasts_grow sent sent' gone gone' closed closed' up more ended (o ∷ os) h =
    let e = ended o.number h.0 in
    (e.0, h.1 ∙ sym e.1, sound_grow sent sent' gone gone' up more o.took h.2, h.3, pasts_grow sent sent' gone gone' closed closed' up more ended os h.4)

pasts_append : (sent : ℕ → List Upcall) (gone : ℕ → ℕ) (closed : ℕ → Bool) (xs ys : List Past) → Pasts sent gone closed xs → Pasts sent gone closed ys → Pasts sent gone closed (xs ++ ys)
pasts_append sent gone closed [] ys h i = i
pasts_append sent gone closed (o ∷ os) ys h i = (h.0, h.1, h.2, h.3, pasts_append sent gone closed os ys h.4 i)

from_snoc : (g : ℕ) (ks : List ℕ) (n : ℕ) → From g ks n → From g (ks ++ n ∷ []) (n + 1)
from_snoc g [] n h = (sym h, omega arith)
from_snoc g (k ∷ ks) n h = (h.0, from_snoc (g + 1) ks n h.1)

places_same : (p : ℕ) (qs : List (ℕ × ℕ)) (k : ℕ) → places_of p (qs ++ (p, k) ∷ []) ≡ places_of p qs ++ k ∷ []
places_same p [] k = grind (arith, nat_tests)
places_same p (q ∷ qs) k = elim (q.0 == p) as (λ b. (if b then q.1 ∷ places_of p (qs ++ (p, k) ∷ []) else places_of p (qs ++ (p, k) ∷ [])) ≡ (if b then q.1 ∷ places_of p qs else places_of p qs) ++ k ∷ [])
    [ true ↦ ap (λ l. q.1 ∷ l) (places_same p qs k) | false ↦ places_same p qs k ]

places_else : (p r : ℕ) (qs : List (ℕ × ℕ)) (k : ℕ) → p ≢ r → places_of p (qs ++ (r, k) ∷ []) ≡ places_of p qs
places_else p r [] k ne = grind (arith, nat_tests)
places_else p r (q ∷ qs) k ne = elim (q.0 == p) as (λ b. (if b then q.1 ∷ places_of p (qs ++ (r, k) ∷ []) else places_of p (qs ++ (r, k) ∷ [])) ≡ (if b then q.1 ∷ places_of p qs else places_of p qs))
    [ true ↦ ap (λ l. q.1 ∷ l) (places_else p r qs k ne) | false ↦ places_else p r qs k ne ]

front_same : (p k : ℕ) (qs : List (ℕ × ℕ)) → places_of p ((p, k) ∷ qs) ≡ k ∷ places_of p qs
front_same p k qs = grind (arith, nat_tests)

front_else : (p r k : ℕ) (qs : List (ℕ × ℕ)) → p ≢ r → places_of p ((r, k) ∷ qs) ≡ places_of p qs
front_else p r k qs ne = grind (arith, nat_tests)

-- the rule for each view, after one view was set: it holds for the new one, and for each other
each_set : (F : ℕ → Known → Type 0) (views : List Known) (seat : ℕ) (w : Known) → F seat w → ((j : ℕ) (u : Known) → j ≢ seat → get_elem? views j ≡ some u → F j u)
    → (j : ℕ) (u : Known) → get_elem? (set views seat w) j ≡ some u → F j u
each_set F views seat w mine others j u at = ⊎_elim (λ (t : (j ≡ seat) × (w ≡ u)). subst (λ (y : ℕ × Known). F y.0 y.1) (λ i. (sym t.0 i, t.1 i)) mine) (λ (t : (j ≢ seat) × (get_elem? views j ≡ some u)). others j u t.0 t.1) (at_set views seat j w u at)

-- a push
pub pushes : (n seat : ℕ) (v : Known) (x : Upcall) → 0 < v.parts → Pushes IsInTurn n seat v x (Puts v x)
pushes n seat v x live items views room b at =
    let w : Known = known v.parts v.number v.passes (v.puts ++ x ∷ []) v.took v.others in
    let mine = b.fits seat v at in
    let me = mine.1 live in
    let count : ℕ = length (b.sent seat) in
    let sent : ℕ → List Upcall = upd b.sent seat (b.sent seat ++ x ∷ []) in
    let long : length (set views seat w) ≡ length views = length_set views seat w in
    let up : Grow b.sent sent = λ p k y h. by_cases p seat
    (λ (e : p ≡ seat). subst (λ (l : List Upcall). slice_get l k ≡ Some y) (sym (upd_same b.sent seat (b.sent seat ++ x ∷ [])) ∙ ap sent (sym e)) (get_more (b.sent seat) (x ∷ []) k y (subst (λ (q : ℕ). slice_get (b.sent q) k ≡ Some y) e h)))
    (λ ne. subst (λ (l : List Upcall). slice_get l k ≡ Some y) (sym (upd_else b.sent seat p (b.sent seat ++ x ∷ []) ne)) h) in
    let still : (p : ℕ) → b.gone p ≤ b.gone p = λ p. omega arith in
    let ended : (p : ℕ) → b.closed p ≡ true → (b.closed p ≡ true) × (sent p ≡ b.sent p) = λ p h. (h, upd_else b.sent seat p (b.sent seat ++ x ∷ []) (λ (e : p ≡ seat). true≢false (sym h ∙ ap b.closed e ∙ me.1))) in (
      w,
      record {
        sent = sent;
        gone = b.gone;
        closed = b.closed;
        maker = b.maker;
        queue = b.queue ++ (seat, count) ∷ [];
        parts = (let s = weigh_set (λ (u : Known). u.parts) views seat v w at in let old = b.parts in omega (arith, long));
        balanced = λ h.
            (let s = weigh_set (put_weight h) views seat v w at in
            let t = weigh_set (took_weight (λ t. h t.item)) views seat v w at in
            let old = b.balanced h in
            omega (arith, weigh_append h v.puts (x ∷ []), weigh_append h items (x ∷ [])));
        once = λ p k. (let t = weigh_set (took_weight (is_at p k)) views seat v w at in let old = b.once p k in omega arith);
        stand = stand_snoc sent b.queue items (seat, count) x (stand_grow b.sent sent up b.queue items b.stand)
            (subst (λ (l : List Upcall). slice_get l count ≡ Some x) (sym (upd_same b.sent seat (b.sent seat ++ x ∷ []))) (get_last (b.sent seat) x));
        runs = λ p. by_cases p seat
            (λ (e : p ≡ seat). subst (λ (q : ℕ). From (b.gone q) (places_of q (b.queue ++ (seat, count) ∷ [])) (length (sent q))) (sym e)
            (rw (places_same seat b.queue count, upd_same b.sent seat (b.sent seat ++ x ∷ []), length_snoc (b.sent seat) x) (from_snoc (b.gone seat) (places_of seat b.queue) count (b.runs seat))))
            (λ ne. rw (places_else p seat b.queue count ne, upd_else b.sent seat p (b.sent seat ++ x ∷ []) ne) (b.runs p));
        fits = each_set (Fits sent b.gone b.closed b.maker (length (set views seat w))) views seat w (
          (λ none. absurd (omega arith)),
          (λ _. (me.0, me.1, ap (λ l. l ++ x ∷ []) me.2 ∙ sym (upd_same b.sent seat (b.sent seat ++ x ∷ [])))),
          sound_grow b.sent sent b.gone b.gone up still v.took mine.2,
          mine.3,
          pasts_grow b.sent sent b.gone b.gone b.closed b.closed up still ended v.others mine.4,
          (λ m. ((mine.5 m).0, (mine.5 m).1 ∙ sym long)),
        )
            (λ j u ne there. let f = b.fits j u there in (
              f.0,
              (λ l. ((f.1 l).0, (f.1 l).1, (f.1 l).2 ∙ sym (upd_else b.sent seat j (b.sent seat ++ x ∷ []) ne))),
              sound_grow b.sent sent b.gone b.gone up still u.took f.2,
              f.3,
              pasts_grow b.sent sent b.gone b.gone b.closed b.closed up still ended u.others f.4,
              (λ m. ((f.5 m).0, (f.5 m).1 ∙ sym long)),
            ));
        fresh = λ p far. (let f = b.fresh p (subst (λ (k : ℕ). k ≤ p) long far) in
            let ne : p ≢ seat = λ e. (let inside = at_below views seat v at in absurd (omega (arith, long))) in
            (upd_else b.sent seat p (b.sent seat ++ x ∷ []) ne ∙ f.0, f.1));
      },
      refl,
    )

below_next : (q k g : ℕ) (x : Upcall) → below k (g + 1) ≡ below k g + is_at q k (record { putter = q; place = g; item = x })
below_next q k g x = grind (arith, nat_tests)

below_else : (p k q g n : ℕ) (x : Upcall) → p ≢ q → below k n ≡ below k n + is_at p k (record { putter = q; place = g; item = x })
below_else p k q g n x ne = grind (arith, nat_tests)

maker_cases : (m seat was : ℕ) → (0 < m → (if nat_lt 0 m then seat else was) ≡ seat) × (m ≡ 0 → (if nat_lt 0 m then seat else was) ≡ was)
maker_cases zero seat was = ((λ h. absurd (omega arith)), λ _. refl)
maker_cases (suc m) seat was = ((λ h. grind (arith, nat_tests)), λ e. absurd (omega arith))

makes_both : (vm wm seat other was maker n n' : ℕ) → seat ≢ other → (0 < vm → (seat ≡ was) × (vm ≡ n)) → (0 < wm → (other ≡ was) × (wm ≡ n)) → (0 < wm → maker ≡ seat) × (wm ≡ 0 → maker ≡ was) → n' ≡ n
    → 0 < vm + wm → (seat ≡ maker) × (vm + wm ≡ n')
makes_both zero zero seat other was maker n n' apart a b c e h = absurd (omega arith)
makes_both zero (suc wm) seat other was maker n n' apart a b c e h = let t = b (omega arith) in (sym (c.0 (omega arith)), (let u = t.1 in omega arith))
makes_both (suc vm) zero seat other was maker n n' apart a b c e h = let t = a (omega arith) in (t.0 ∙ sym (c.1 refl), (let u = t.1 in omega arith))
makes_both (suc vm) (suc wm) seat other was maker n n' apart a b c e h = absurd (apart ((a (omega arith)).0 ∙ sym (b (omega arith)).0))

makes_else : (j other seat was maker wm n : ℕ) → j ≢ other → j ≡ was → (0 < wm → (other ≡ was) × (wm ≡ n)) → (0 < wm → maker ≡ seat) × (wm ≡ 0 → maker ≡ was) → j ≡ maker
makes_else j other seat was maker zero n out is b c = is ∙ sym (c.1 refl)
makes_else j other seat was maker (suc wm) n out is b c = absurd (out (is ∙ sym (b (omega arith)).0))

nothing : (f : Known → ℕ) → f spent ≡ 0 → (views : List Known) → ((j : ℕ) (u : Known) → get_elem? views j ≡ some u → u.parts ≡ 0 → u ≡ spent) → weigh (λ u. u.parts) views ≡ 0 → weigh f views ≡ 0
nothing f none [] empty all = refl
nothing f none (u ∷ us) empty all =
    let g : f u ≡ 0 = ap f (empty zero u refl (omega arith)) ∙ none in
    let rest = nothing f none us (λ j x h. empty (suc j) x h) (omega arith) in
    omega arith

part_of : (views : List Known) (seat : ℕ) (v : Known) → get_elem? views seat ≡ some v → v.parts ≤ weigh (λ z. z.parts) views
part_of [] seat v at = absurd (some-ne-none v (sym at))
part_of (u ∷ us) zero v at = let p : u.parts ≡ v.parts = ap (λ z. z.parts) (some-injective u v at) in omega arith
part_of (u ∷ us) (suc seat) v at = let rest = part_of us seat v at in omega arith

nothing_below : (k : ℕ) → 0 ≡ below k 0
nothing_below k = grind (arith, nat_tests)

begins_fits : (seat : ℕ) (v : Known) → get_elem? (first ∷ []) seat ≡ some v → Fits (λ _. []) (λ _. 0) (λ _. false) 0 1 seat v
begins_fits zero v at = subst (λ (u : Known). Fits (λ _. []) (λ _. 0) (λ _. false) 0 1 0 u) (some-injective first v at)
    ((λ none. absurd (omega arith)), (λ _. (refl, refl, refl)), tt, tt, tt, λ _. (refl, refl))
begins_fits (suc seat) v at = absurd (some-ne-none v (sym at))

-- how many of the first places have left, after one more did
below_more : (p k q : ℕ) (g : ℕ → ℕ) (x : Upcall) → below k (upd g q (g q + 1) p) ≡ below k (g p) + is_at p k (record { putter = q; place = g q; item = x })
below_more p k q g x = by_cases p q
    (λ (e : p ≡ q). subst (λ (r : ℕ). below k (upd g q (g q + 1) r) ≡ below k (g r) + is_at r k (record { putter = q; place = g q; item = x })) (sym e) (rw (upd_same g q (g q + 1)) (below_next q k (g q) x)))
    (λ ne. rw (upd_else g q p (g q + 1) ne) (below_else p k q (g q) (g p) x ne))

-- a pop
pub pops : (seat : ℕ) (v : Known) → 0 < v.parts → Pops IsInTurn seat v (Takes v)
pops seat v live x items views b at =
    let front = stand_front b.sent b.queue x items b.stand in
    let p : ℕ = front.0 in
    let k : ℕ = front.1 in
    let rest : List (ℕ × ℕ) = front.2 in
    let mine = b.fits seat v at in
    let me = mine.1 live in
    let t : Taken = record { putter = p; place = k; item = x } in
    let w : Known = known v.parts v.number v.passes v.puts (v.took ++ t ∷ []) v.others in
    let run : From (b.gone p) (k ∷ places_of p rest) (length (b.sent p)) = subst (λ (l : List ℕ). From (b.gone p) l (length (b.sent p))) (ap (places_of p) front.3 ∙ front_same p k rest) (b.runs p) in
    let is : k ≡ b.gone p = run.0 in
    let gone : ℕ → ℕ = upd b.gone p (b.gone p + 1) in
    let long : length (set views seat w) ≡ length views = length_set views seat w in
    let up : Grow b.sent b.sent = λ _ _ _ h. h in
    let more : (q : ℕ) → b.gone q ≤ gone q = λ q. by_cases q p
    (λ (e : q ≡ p). subst (λ (r : ℕ). b.gone r ≤ gone r) (sym e) (rw (upd_same b.gone p (b.gone p + 1)) (omega arith)))
    (λ ne. rw (upd_else b.gone p q (b.gone p + 1) ne) (omega arith)) in
    let ended : (q : ℕ) → b.closed q ≡ true → (b.closed q ≡ true) × (b.sent q ≡ b.sent q) = λ q h. (h, refl) in
    let left : k < gone p = rw (upd_same b.gone p (b.gone p + 1)) (omega (arith, is)) in
    let rises : Rising (v.took ++ t ∷ []) = rising_snoc b.sent b.gone v.took t mine.2 mine.3 is in
    let sound : Sound b.sent gone (v.took ++ t ∷ []) = sound_snoc b.sent gone v.took t (sound_grow b.sent b.sent b.gone gone up more v.took mine.2) front.4 left in
    let pasts : Pasts b.sent gone b.closed v.others = pasts_grow b.sent b.sent b.gone gone b.closed b.closed up more ended v.others mine.4 in (
      w,
      record {
        sent = b.sent;
        gone = gone;
        closed = b.closed;
        maker = b.maker;
        queue = rest;
        parts = (let s = weigh_set (λ (u : Known). u.parts) views seat v w at in let old = b.parts in omega (arith, long));
        balanced = λ h.
            (let s = weigh_set (put_weight h) views seat v w at in
            let s' = weigh_set (took_weight (λ t. h t.item)) views seat v w at in
            let old = b.balanced h in
            omega (arith, weigh_append (λ (t : Taken). h t.item) v.took (t ∷ [])));
        once = λ q j.
            (let s = weigh_set (took_weight (is_at q j)) views seat v w at in
            let old = b.once q j in
            let m : below j (gone q) ≡ below j (b.gone q) + is_at q j t = subst (λ (z : ℕ). below j (gone q) ≡ below j (b.gone q) + is_at q j (record { putter = p; place = z; item = x })) (sym is) (below_more q j p b.gone x) in
            omega (arith, weigh_append (is_at q j) v.took (t ∷ [])));
        stand = front.5;
        runs = λ q. by_cases q p
            (λ (e : q ≡ p). subst (λ (r : ℕ). From (gone r) (places_of r rest) (length (b.sent r))) (sym e)
            (rw (upd_same b.gone p (b.gone p + 1)) run.1))
            (λ ne. rw (upd_else b.gone p q (b.gone p + 1) ne)
            (subst (λ (l : List ℕ). From (b.gone q) l (length (b.sent q))) (ap (places_of q) front.3 ∙ front_else q p k rest ne) (b.runs q)));
        fits = each_set (Fits b.sent gone b.closed b.maker (length (set views seat w))) views seat w (
          (λ none. absurd (omega arith)),
          (λ _. (me.0, me.1, me.2)),
          sound,
          rises,
          pasts,
          (λ m. ((mine.5 m).0, (mine.5 m).1 ∙ sym long)),
        )
            (λ j u ne there. let f = b.fits j u there in (
              f.0,
              f.1,
              sound_grow b.sent b.sent b.gone gone up more u.took f.2,
              f.3,
              pasts_grow b.sent b.sent b.gone gone b.closed b.closed up more ended u.others f.4,
              (λ m. ((f.5 m).0, (f.5 m).1 ∙ sym long)),
            ));
        fresh = λ q far. b.fresh q (subst (λ (n : ℕ). n ≤ q) long far);
      },
      ((p, k, refl), ordered b.sent gone b.closed (past w) v.others (me.2 ∙ ap b.sent (sym me.0)) sound rises pasts),
    )

-- a new pass
pub forks : (seat : ℕ) (v : Known) → 0 < v.parts → 0 < v.passes → Forks IsInTurn seat v (after_making v) (made v)
forks seat v live makes items views b at =
    let l : Known = after_making v in
    let r : Known = made v in
    let mine = b.fits seat v at in
    let me = mine.1 live in
    let maker = mine.5 makes in
    let vs : List Known = set views seat l in
    let long : length vs ≡ length views = length_set views seat l in
    let longer : length (vs ++ r ∷ []) ≡ length views + 1 = length_snoc vs r ∙ ap (λ (n : ℕ). n + 1) long in
    let F : ℕ → Known → Type 0 = Fits b.sent b.gone b.closed b.maker (length (vs ++ r ∷ [])) in
    let old : (j : ℕ) (u : Known) → get_elem? vs j ≡ some u → F j u = each_set F views seat l (
      (λ none. absurd (omega arith)),
      (λ _. me),
      mine.2,
      mine.3,
      mine.4,
      (λ _. (maker.0, (let m = maker.1 in omega (arith, longer)))),
    )
    (λ j u ne there. let f = b.fits j u there in (f.0, f.1, f.2, f.3, f.4, λ m. absurd (ne ((f.5 m).0 ∙ sym maker.0)))) in
    let fresh = b.fresh (length views) (omega arith) in
    record {
      sent = b.sent;
      gone = b.gone;
      closed = b.closed;
      maker = b.maker;
      queue = b.queue;
      parts = (let s = weigh_set (λ (u : Known). u.parts) views seat v l at in let p = b.parts in omega (arith, longer, weigh_append (λ (u : Known). u.parts) vs (r ∷ [])));
      balanced = λ h.
          (let s = weigh_set (put_weight h) views seat v l at in
          let t = weigh_set (took_weight (λ t. h t.item)) views seat v l at in
          let e = b.balanced h in
          omega (arith, weigh_append (put_weight h) vs (r ∷ []), weigh_append (took_weight (λ t. h t.item)) vs (r ∷ [])));
      once = λ p k. (let t = weigh_set (took_weight (is_at p k)) views seat v l at in let e = b.once p k in omega (arith, weigh_append (took_weight (is_at p k)) vs (r ∷ [])));
      stand = b.stand;
      runs = b.runs;
      fits = λ j u there. ⊎_elim (λ h. old j u h)
          (λ (t : (j ≡ length vs) × (r ≡ u)). subst (λ (y : ℕ × Known). F y.0 y.1) (λ i. (sym (t.0 ∙ long) i, t.1 i))
          ((λ none. absurd (omega arith)), (λ _. (maker.1, fresh.1, sym fresh.0)), tt, tt, tt, λ m. absurd (omega arith)))
          (at_end vs r u j there);
      fresh = λ p far. b.fresh p (omega (arith, longer));
    }

-- one pass taken into another
pub merges : (seat : ℕ) (v : Known) (other : ℕ) (w : Known) → 0 < v.parts → 0 < w.parts → Merges IsInTurn seat v other w (joined v w) spent
merges seat v other w live live' items views b at two there =
    let l : Known = joined v w in
    let vs : List Known = set views seat l in
    let at' : get_elem? views other ≡ some w = ⊎_elim (λ (t : (other ≡ seat) × (l ≡ w)). absurd (two t.0)) (λ (t : (other ≢ seat) × (get_elem? views other ≡ some w)). t.1) (at_set views seat other l w there) in
    let mine = b.fits seat v at in
    let me = mine.1 live in
    let theirs = b.fits other w at' in
    let them = theirs.1 live' in
    let closed : ℕ → Bool = upd b.closed other true in
    let long : length (set vs other spent) ≡ length views = length_set vs other spent ∙ length_set views seat l in
    let up : Grow b.sent b.sent = λ _ _ _ h. h in
    let still : (p : ℕ) → b.gone p ≤ b.gone p = λ p. omega arith in
    let shut : closed other ≡ true = upd_same b.closed other true in
    let ended : (p : ℕ) → b.closed p ≡ true → (closed p ≡ true) × (b.sent p ≡ b.sent p) = λ p h. (by_cases p other (λ (e : p ≡ other). ap closed e ∙ shut) (λ ne. upd_else b.closed other p true ne ∙ h), refl) in
    let apart : seat ≢ other = λ e. two (sym e) in
    let sums : (f : Known → ℕ) → f spent ≡ 0 → f l ≡ f v + f w → weigh f (set vs other spent) ≡ weigh f views = λ f none add.
    (let s = weigh_set f views seat v l at in let t = weigh_set f vs other w spent there in omega arith) in
    let maker : ℕ = if nat_lt 0 w.passes then seat else b.maker in
    let whose : (0 < w.passes → maker ≡ seat) × (w.passes ≡ 0 → maker ≡ b.maker) = maker_cases w.passes seat b.maker in
    record {
      sent = b.sent;
      gone = b.gone;
      closed = closed;
      maker = maker;
      queue = b.queue;
      parts = sums (λ u. u.parts) refl refl ∙ (b.parts ∙ sym long);
      balanced = λ h. rw (sums (put_weight h) refl (omega (arith, weigh_append (λ (o : Past). weigh h o.puts) v.others (past w ∷ w.others))), sums (took_weight (λ t. h t.item)) refl (omega (arith, weigh_append (λ (o : Past). weigh (λ (t : Taken). h t.item) o.took) v.others (past w ∷ w.others)))) (b.balanced h);
      once = λ p k. sums (took_weight (is_at p k)) refl (omega (arith, weigh_append (λ (o : Past). weigh (is_at p k) o.took) v.others (past w ∷ w.others))) ∙ b.once p k;
      stand = b.stand;
      runs = b.runs;
      fits = each_set (Fits b.sent b.gone closed maker (length (set vs other spent))) vs other spent
          ((λ _. refl), (λ h. absurd (omega arith)), tt, tt, tt, λ h. absurd (omega arith))
          (λ j u out here. ⊎_elim
          (λ (t : (j ≡ seat) × (l ≡ u)). subst (λ (y : ℕ × Known). Fits b.sent b.gone closed maker (length (set vs other spent)) y.0 y.1) (λ i. (sym t.0 i, t.1 i)) (
            (λ none. absurd (omega arith)),
            (λ _. (me.0, upd_else b.closed other seat true apart ∙ me.1, me.2)),
            mine.2,
            mine.3,
            pasts_append b.sent b.gone closed v.others (past w ∷ w.others) (pasts_grow b.sent b.sent b.gone b.gone b.closed closed up still ended v.others mine.4)
                (ap closed them.0 ∙ shut, them.2 ∙ ap b.sent (sym them.0), theirs.2, theirs.3, pasts_grow b.sent b.sent b.gone b.gone b.closed closed up still ended w.others theirs.4),
            makes_both v.passes w.passes seat other b.maker maker (length views) (length (set vs other spent)) apart mine.5 theirs.5 whose long,
          ))
          (λ (t : (j ≢ seat) × (get_elem? views j ≡ some u)). let f = b.fits j u t.1 in (
            f.0,
            (λ h. ((f.1 h).0, upd_else b.closed other j true out ∙ (f.1 h).1, (f.1 h).2)),
            f.2,
            f.3,
            pasts_grow b.sent b.sent b.gone b.gone b.closed closed up still ended u.others f.4,
            (λ m. (makes_else j other seat b.maker maker w.passes (length views) out (f.5 m).0 theirs.5 whose, (f.5 m).1 ∙ sym long)),
          ))
          (at_set views seat j l u here));
      fresh = λ p far. (let inside = at_below views other w at' in
          let f = b.fresh p (subst (λ (n : ℕ). n ≤ p) long far) in
          let ne : p ≢ other = λ e. absurd (omega (arith, long)) in
          (f.0, upd_else b.closed other p true ne ∙ f.1));
    }

-- where one view has all parts, nothing is in the others
alone : (f : Known → ℕ) → f spent ≡ 0 → (views : List Known) (seat : ℕ) (v : Known) → get_elem? views seat ≡ some v → ((j : ℕ) (u : Known) → get_elem? views j ≡ some u → u.parts ≡ 0 → u ≡ spent) → weigh (λ u. u.parts) views ≡ v.parts → weigh f views ≡ f v
alone f none [] seat v at empty all = absurd (some-ne-none v (sym at))
alone f none (u ∷ us) zero v at empty all =
    let same : u ≡ v = some-injective u v at in
    let rest : weigh f us ≡ 0 = nothing f none us (λ j x h. empty (suc j) x h) (let p : u.parts ≡ v.parts = ap (λ z. z.parts) same in omega arith) in
    let g : f u ≡ f v = ap f same in omega arith
alone f none (u ∷ us) (suc seat) v at empty all =
    let some_left : v.parts ≤ weigh (λ z. z.parts) us = part_of us seat v at in
    let gone : u.parts ≡ 0 = omega arith in
    let g : f u ≡ 0 = ap f (empty zero u refl gone) ∙ none in
    let rest = alone f none us seat v at (λ j x h. empty (suc j) x h) (omega arith) in
    omega arith

-- what a pass learns, above all the one that has all others in it
pub learns : (seat : ℕ) (v : Known) → 0 < v.parts → Learns IsInTurn seat v (Shows v)
learns seat v live items views b at =
    let mine = b.fits seat v at in
    let me = mine.1 live in (
      (λ makes whole h.
          let all : weigh (λ u. u.parts) views ≡ v.parts = b.parts ∙ (sym (mine.5 makes).1 ∙ sym whole) in
          let empty : (j : ℕ) (u : Known) → get_elem? views j ≡ some u → u.parts ≡ 0 → u ≡ spent = λ j u t. (b.fits j u t).0 in
          let puts = alone (put_weight h) refl views seat v at empty all in
          let took = alone (took_weight (λ t. h t.item)) refl views seat v at empty all in
          let e = b.balanced h in
          omega arith),
      ordered b.sent b.gone b.closed (past v) v.others (me.2 ∙ ap b.sent (sym me.0)) mine.2 mine.3 mine.4,
    )

pub begins : IsInTurn [] (first ∷ [])
begins = record {
  sent = λ _. [];
  gone = λ _. 0;
  closed = λ _. false;
  maker = 0;
  queue = [];
  parts = refl;
  balanced = λ h. refl;
  once = λ p k. nothing_below k;
  stand = tt;
  runs = λ p. refl;
  fits = λ seat v at. begins_fits seat v at;
  fresh = λ p far. (refl, refl);
}
