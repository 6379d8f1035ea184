-- An entry that is revalidated.
use Rattle.std.proofs.Common.{◌≡◌, ℕ, ◌+◌, ◌<◌, ◌≤◌, Bool, true, false, cond, ◌||◌, ◌==◌, List, [], ◌∷◌, map, length, Option, Some, inl, inr, refl, sym, ap, ap₂, subst, ◌∙◌, arith}
use Rattle.std.specs.Prelude.{◌≢◌, ◌⊎◌, filter, not, nat_le}
use Rattle.std.specs.Option.{option_map}
use Rattle.std.proofs.lemmas.Bool.{cases_eq, eq-eqb, ne_eqb, eqb-true, cond-true, cond-false, and_parts}
use Rattle.std.proofs.lemmas.Option.{same_Some}
use Rattle.table_laws.proofs.MemberLaws.{Among}
use Rattle.spec_keys.specs.Keys.{covers, same}
use Rattle.spec_xlate.specs.Translation.{Translation}
use Rattle.spec_board.specs.State as states
use Rattle.spec_board.specs.Cache.{slot_at}
use Rattle.spec_board.specs.Results as board
use Rattle.spec_board.specs.Effects as effects
use Rattle.spec_board.specs.declared.put_done.PutDone.{PutDone}
use Rattle.spec_board.specs.declared.put_done.PutDone.TheVariants.{Idle, Removed, Kept, Replaced}
use Rattle.port_caches.specs.Sums.{IsCountable, total_of}
use Rattle.port_caches.proofs.stats.SameTotals.{same_totals-credited_by}
use Rattle.megaflow_table.specs.declared.entry.Entry.{Entry}
use Rattle.megaflow_table.specs.Entries as flow
use Rattle.port_caches.specs.declared.lists.HeldList.{HeldList}
use Rattle.port_caches.specs.declared.caches.PortCaches.TheInside.{Inside}
use Rattle.port_caches.specs.Lists.{actions_at}
use Rattle.port_caches.specs.Views.{AreCachesOf, Caches, entry_view}
use Rattle.port_caches.specs.Drops.{credited_with}
use Rattle.port_caches.specs.Kept.{AreKept, IsApart, IsKept, caches_in}
use Rattle.port_caches.specs.Steps.{AreRules, HasFewTotals, IsPut, IsSameCache, put_state}
use Rattle.port_caches.proofs.ListLaws.{filter-map, found}
use Rattle.port_caches.proofs.Kept.{kept_at, kept_found, kept_more, kept-filter, kept-changed, kept_renamed, other_lists}
use Rattle.port_caches.proofs.Views.{changed-view, entry_of-view, viewed}
use Rattle.port_caches.proofs.Settles.{state_with}
use Rattle.port_caches.proofs.SameTranslations.{same_actions}

-- ---- one number among one

among_one : (n m : ℕ) → effects.is_among (n ∷ []) m ≡ (m == n)
among_one n m =
    elim (cases_eq m n) [
      | inl is ↦ ap (λ b. b || false) (eq-eqb n m (sym is)) ∙ sym (eq-eqb m n is)
      | inr other ↦ ap (λ b. b || false) (ne_eqb n m (λ is. other (sym is))) ∙ sym (ne_eqb m n other)
    ]

abbrev owing_none : states.Entry → states.Entry
owing_none e = record e { owed_packets = 0; owed_bytes = 0 }

paid_one : (n : ℕ) (s : states.State) → (effects.paid (n ∷ []) s).entries ≡ effects.changed n owing_none s.entries
paid_one n s = λ i. map (λ (e : states.Entry). cond (among_one n e.number i) (owing_none e) e) s.entries

dropped_one : (n : ℕ) (es : List states.Entry) → filter (λ (e : states.Entry). not (effects.is_among (n ∷ []) e.number)) es ≡ filter (λ (e : states.Entry). not (e.number == n)) es
dropped_one n es = λ i. filter (λ (e : states.Entry). not (among_one n e.number i)) es

-- the one entry of a number
only_one : (lists made rules n : ℕ) (es : List Entry) (d : Entry) → AreKept lists made rules es → flow.entry_of n es ≡ Some d → filter (λ (e : Entry). e.number == n) es ≡ d ∷ []
only_one lists made rules n [] d kept is = absurd (cc is)
only_one lists made rules n (x ∷ xs) d kept is = at (x.number == n) refl is (only_one lists made rules n xs d kept.2)
  where
    none : (ys : List Entry) → IsApart x ys → x.number ≡ n → filter (λ (e : Entry). e.number == n) ys ≡ []
    none [] apart at_n = refl
    none (y ∷ ys) apart at_n =
        cond-false (y.number == n) (y ∷ filter (λ (e : Entry). e.number == n) ys) (filter (λ (e : Entry). e.number == n) ys) (ne_eqb y.number n (λ there. apart.0 (at_n ∙ sym there)))
        ∙ none ys apart.2 at_n

    at : (t : Bool) → (x.number == n) ≡ t → cond t (Some x) (flow.entry_of n xs) ≡ Some d → (flow.entry_of n xs ≡ Some d → filter (λ (e : Entry). e.number == n) xs ≡ d ∷ [])
        → cond t (x ∷ filter (λ (e : Entry). e.number == n) xs) (filter (λ (e : Entry). e.number == n) xs) ≡ d ∷ []
    at true passes first ih = ap₂ (λ (y : Entry) (ys : List Entry). y ∷ ys) (same_Some x d first) (none xs kept.1 (eqb-true x.number n passes))
    at false fails rest ih = ih rest

entry_of-changed : (n : ℕ) (f : Entry → Entry) (es : List Entry) → ((e : Entry) → (f e).number ≡ e.number) → flow.entry_of n (flow.changed n f es) ≡ option_map f (flow.entry_of n es)
entry_of-changed n f [] keeps = refl
entry_of-changed n f (e ∷ es) keeps = at (e.number == n) refl (entry_of-changed n f es keeps)
  where
    at : (t : Bool) → (e.number == n) ≡ t → flow.entry_of n (flow.changed n f es) ≡ option_map f (flow.entry_of n es)
        → cond ((cond t (f e) e).number == n) (Some (cond t (f e) e)) (flow.entry_of n (flow.changed n f es)) ≡ option_map f (cond t (Some e) (flow.entry_of n es))
    at true is ih = cond-true ((f e).number == n) (Some (f e)) (flow.entry_of n (flow.changed n f es)) (ap (λ m. m == n) (keeps e) ∙ is)
    at false fails ih = cond-false (e.number == n) (Some e) (flow.entry_of n (flow.changed n f es)) fails ∙ ih

-- ---- results

-- a put leaves the totals that the payment made
put_totals : (r : PutDone) (n v : ℕ) (t : Translation) (s : states.State) → (effects.with_put r n v t s).totals ≡ s.totals
put_totals Idle n v t s = refl
put_totals Removed n v t s = refl
put_totals Kept n v t s = refl
put_totals Replaced n v t s = refl

-- an entry that is kept has the translation
kept_translation : (e : states.Entry) (t : Translation) (mask : List ℕ) (s : states.State) → board.put_of e t mask s ≡ Kept → board.is_same_translation e t ≡ true
kept_translation e t mask s is = at (nat_le (e.used + board.idle_time) s.clock) (not (covers e.mask mask)) (board.is_same_translation e t) is
  where
    at : (x y z : Bool) → cond x Idle (cond y Removed (cond z Kept Replaced)) ≡ Kept → z ≡ true
    at true y z is = absurd (cc is)
    at false true z is = absurd (cc is)
    at false false true is = refl
    at false false false is = absurd (cc is)

-- ---- the payment

module _ (a : Inside) (kept : IsKept a) (number : ℕ) (d : Entry) (is : flow.entry_of number a.flows.entries ≡ Some d) where
  abbrev kept_entries : AreKept (length a.lists.items) a.made (length a.totals) a.flows.entries
  kept_entries = kept.entries

  pub payable_one : flow.ForEntry number a.flows.entries (λ e. AreRules (length a.totals) e.visits)
  payable_one = (d, is, (kept_found (length a.lists.items) a.made (length a.totals) a.flows.entries number d kept.entries is).visits)

  -- what the entry owed is credited
  owed_seen : (s : states.State) → AreCachesOf (caches_in a) s → (v rule : ℕ) → (effects.put_by number v s).totals rule ≡ credited_with (flow.entry_of number a.flows.entries) (total_of a.totals) rule
  unfolding effects.credited_by
  owed_seen s of v rule =
      (λ i. effects.credited_by (filter (λ (e : states.Entry). among_one number e.number i) (of.entries i)) s.totals rule)
      ∙ same_totals-credited_by (filter (λ (e : states.Entry). e.number == number) (caches_in a).entries) s.totals (total_of a.totals) of.totals rule
      ∙ ap (λ (es : List states.Entry). effects.credited_by es (total_of a.totals) rule)
      (filter-map (entry_view a.lists.items) (λ (e : states.Entry). e.number == number) a.flows.entries
      ∙ ap (map (entry_view a.lists.items)) (only_one (length a.lists.items) a.made (length a.totals) number a.flows.entries d kept.entries is))
      ∙ sym (ap (λ (o : Option Entry). credited_with o (total_of a.totals) rule) is)

  pub owed_fits : (mask : List ℕ) (v : ℕ) (t : Translation) (clock : ℕ)
      → ((s : states.State) (e : states.Entry) → AreCachesOf (caches_in a) s → s.clock ≡ clock → board.entry_of number s.entries ≡ Some e → HasFewTotals (put_state e mask v t s))
      → (rule : ℕ) → IsCountable (credited_with (flow.entry_of number a.flows.entries) (total_of a.totals) rule)
  owed_fits mask v t clock fits rule =
      let s : states.State = record (state_with (caches_in a)) { clock = clock } in
      let of : AreCachesOf (caches_in a) s = record { entries = refl; made = refl; slots = λ n. refl; totals = λ r. refl } in
      let e = entry_view a.lists.items d in
      let there : board.entry_of number s.entries ≡ Some e = entry_of-view a.lists.items number a.flows.entries ∙ ap (option_map (entry_view a.lists.items)) is in
      let few = fits s e of refl there rule in
      let same_number : d.number ≡ number = eqb-true d.number number (found (λ (x : Entry). x.number == number) a.flows.entries d is).1 in
      let seen : (put_state e mask v t s).totals rule ≡ credited_with (flow.entry_of number a.flows.entries) (total_of a.totals) rule =
      ap (λ (ts : ℕ → states.Total). ts rule) (put_totals (board.put_of e t mask s) d.number v t (effects.put_by d.number v s))
      ∙ ap (λ (n : ℕ). (effects.put_by n v s).totals rule) same_number
      ∙ owed_seen s of v rule in
      subst (λ (x : states.Total). IsCountable x) seen (record { packets = few.0; bytes = few.1 })

  -- what is kept has the actions of the translation
  pub kept_own : (e : states.Entry) → board.entry_of number (caches_in a).entries ≡ Some e → (t : Translation) (mask : List ℕ) (s : states.State) → board.put_of e t mask s ≡ Kept
      → actions_at a.lists.items d.actions ≡ t.actions
  kept_own e at t mask s result =
      let there = viewed a.lists.items number a.flows.entries e at in
      let same_entry : entry_view a.lists.items d ≡ e = ap (entry_view a.lists.items) (same_Some d there.0 (sym is ∙ there.1)) ∙ there.2 in
      ap (λ (x : states.Entry). x.actions) same_entry
      ∙ same_actions e.actions t.actions (and_parts (board.are_same_actions e.actions t.actions) (same e.visits t.visits) (kept_translation e t mask s result)).0

  -- ---- after the payment

  module _ (flows : List Entry) (flows_are : flows ≡ flow.changed number flow.paid a.flows.entries) where
    pub paid_there : flow.entry_of number flows ≡ Some (flow.paid d)
    paid_there = ap (flow.entry_of number) flows_are ∙ entry_of-changed number flow.paid a.flows.entries (λ e. refl) ∙ ap (option_map flow.paid) is

    pub paid_kept : (rules : ℕ) → rules ≡ length a.totals → AreKept (length a.lists.items) a.made rules flows
    paid_kept rules rules_is =
        subst (AreKept (length a.lists.items) a.made rules) (sym flows_are)
        (kept_more (length a.lists.items) (length a.lists.items) a.made a.made (length a.totals) rules (flow.changed number flow.paid a.flows.entries) (omega arith) (omega arith) rules_is
        (kept-changed (length a.lists.items) a.made (length a.totals) number flow.paid a.flows.entries (record { number = λ e. refl; actions = λ e. refl; visits = λ e. refl }) kept.entries))

    paid_view : (s : states.State) → AreCachesOf (caches_in a) s → (v : ℕ) → (effects.put_by number v s).entries ≡ map (entry_view a.lists.items) flows
    paid_view s of v =
        paid_one number s ∙ ap (effects.changed number owing_none) of.entries
        ∙ sym (changed-view a.lists.items a.lists.items number flow.paid owing_none a.flows.entries (λ e m n. refl) (λ e m n. refl))
        ∙ sym (ap (map (entry_view a.lists.items)) flows_are)

    -- of any two entries with another number than this one the lists are others
    free_of : (rules : ℕ) → rules ≡ length a.totals → (e : Entry) → Among e flows → e.number ≢ number → d.actions ≢ e.actions
    free_of rules rules_is e m other =
        let there = found (λ (x : Entry). x.number == number) flows (flow.paid d) paid_there in
        other_lists (length a.lists.items) a.made rules flows (flow.paid d) e (paid_kept rules rules_is) there.0 m (λ same. other (sym same ∙ eqb-true d.number number there.1))

    module _ (after : Caches) (made : after.made ≡ a.made) (slots : after.slots ≡ a.exact)
        (totals : (rule : ℕ) → total_of after.totals rule ≡ credited_with (flow.entry_of number a.flows.entries) (total_of a.totals) rule) where
      pub dropped_effect : after.entries ≡ map (entry_view a.lists.items) (flow.without number flows)
          → (s : states.State) → AreCachesOf (caches_in a) s → (v : ℕ) → AreCachesOf after (effects.dropped (number ∷ []) (effects.put_by number v s))
      dropped_effect entries s of v = record {
        entries =
            dropped_one number (effects.put_by number v s).entries
            ∙ ap (filter (λ (e : states.Entry). not (e.number == number))) (paid_view s of v)
            ∙ filter-map (entry_view a.lists.items) (λ (e : states.Entry). not (e.number == number)) flows ∙ sym entries;
        made = of.made ∙ sym made;
        slots = λ n. ap (λ (xs : List states.Slot). slot_at xs n) slots ∙ of.slots n;
        totals = λ rule. owed_seen s of v rule ∙ sym (totals rule);
      }

      pub changed_effect : (lists : List HeldList) (list v : ℕ) (visits : List ℕ) (t : Translation) (rules : ℕ) → rules ≡ length a.totals
          → after.entries ≡ map (entry_view lists) (flow.changed number (flow.changed_to v list visits) flows)
          → actions_at lists list ≡ t.actions → visits ≡ t.visits → ((n : ℕ) → n < length a.lists.items → n ≢ d.actions → actions_at lists n ≡ actions_at a.lists.items n)
          → (s : states.State) → AreCachesOf (caches_in a) s
          → AreCachesOf after (record (effects.put_by number v s) { entries = effects.changed number (effects.revalidated v t) (effects.put_by number v s).entries })
      changed_effect lists list v visits t rules rules_is entries actions_are visits_are others s of = record {
        entries =
            ap (effects.changed number (effects.revalidated v t)) (paid_view s of v)
            ∙ sym (changed-view a.lists.items lists number (flow.changed_to v list visits) (effects.revalidated v t) flows
            (λ e m n. λ i. record (entry_view a.lists.items e) { version = v; actions = actions_are i; visits = visits_are i })
            (λ e m other. others e.actions (kept_at (length a.lists.items) a.made rules flows e (paid_kept rules rules_is) m).list (λ same. free_of rules rules_is e m other (sym same))))
            ∙ sym entries;
        made = of.made ∙ sym made;
        slots = λ n. ap (λ (xs : List states.Slot). slot_at xs n) slots ∙ of.slots n;
        totals = λ rule. owed_seen s of v rule ∙ sym (totals rule);
      }

    -- ---- what is kept

    pub without_kept : (rules : ℕ) → rules ≡ length a.totals → AreKept (length a.lists.items) a.made rules (flow.without number flows)
    without_kept rules rules_is = kept-filter (length a.lists.items) a.made rules (λ (e : Entry). not (e.number == number)) flows (paid_kept rules rules_is)

    pub changed_kept : (lists list v : ℕ) (visits : List ℕ) (rules : ℕ) → rules ≡ length a.totals → length a.lists.items ≤ lists → list < lists
        → (list ≡ d.actions) ⊎ (list ≡ length a.lists.items) → AreRules rules visits
        → AreKept lists a.made rules (flow.changed number (flow.changed_to v list visits) flows)
    changed_kept lists list v visits rules rules_is more within own_or_new visits_are =
        kept_renamed (length a.lists.items) lists a.made rules number (flow.changed_to v list visits) flows more (paid_kept rules rules_is)
        (λ e m n. record { list = within; number = (kept_at (length a.lists.items) a.made rules flows e (paid_kept rules rules_is) m).number; visits = visits_are })
        (λ e. refl) (λ e x m other. free x m other own_or_new)
      where
        free : (x : Entry) → Among x flows → x.number ≢ number → (list ≡ d.actions) ⊎ (list ≡ length a.lists.items) → list ≢ x.actions
        free x m other (inl own) = λ same. free_of rules rules_is x m other (sym own ∙ same)
        free x m other (inr new) = λ same. let here = kept_at (length a.lists.items) a.made rules flows x (paid_kept rules rules_is) m in let below = here.list in absurd (omega (arith, same, new, below))

-- ---- the clause

module _ (number : ℕ) (mask : List ℕ) (v : ℕ) (t : Translation) (clock : ℕ) (before : Caches) (r : PutDone) (after : Caches) where
  abbrev pub Judged : Type 0
  Judged = (s : states.State) (e : states.Entry) → s.clock ≡ clock → board.entry_of number before.entries ≡ Some e → r ≡ board.put_of e t mask s

  pub put_is : IsSameCache before after → before.room ≤ after.room + 1 → Judged
      → ((s : states.State) (e : states.Entry) → AreCachesOf before s → board.entry_of number before.entries ≡ Some e → board.put_of e t mask s ≡ r
      → AreCachesOf after (effects.with_put r number v t (effects.put_by number v s)))
      → IsPut number mask v t clock before r after
  put_is same room judged effect = record {
    same = same;
    room = room;
    result = λ s e of at is. judged s e at (sym (ap (board.entry_of number) of.entries) ∙ is);
    effect = λ s e of at is.
        let there : board.entry_of number before.entries ≡ Some e = sym (ap (board.entry_of number) of.entries) ∙ is in
        let result = judged s e at there in
        let same_number : number ≡ e.number = sym (eqb-true e.number number (found (λ (x : states.Entry). x.number == number) before.entries e there).1) in
        subst (λ (n : ℕ). AreCachesOf after (effects.with_put (board.put_of e t mask s) n v t (effects.put_by n v s))) same_number
        (subst (λ (x : PutDone). AreCachesOf after (effects.with_put x number v t (effects.put_by number v s))) result (effect s e of there (sym result)));
  }
