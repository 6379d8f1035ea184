-- The keys of entries: no number is given twice, and an entry's key stays.
use Rattle.std.proofs.Common.{◌≡◌, ℕ, ◌≤◌, ◌<◌, ◌+◌, ◌==◌, nat_lt, Bool, true, false, List, [], ◌∷◌, if◌then◌else◌, Option, Some, None, ◌⊎◌, inl, inr, refl, sym, ap, ◌∙◌, subst, arith}
use Rattle.std.specs.Prelude.{IsSome}
use Rattle.std.specs.List.{find}
use Rattle.std.specs.Option.{option_map}
use Rattle.std.proofs.lemmas.Bool.{eq-eqb, lt-ltb, ltb-true, or_right, false≢true}
use Rattle.spec_case.specs.Run.{Run}
use Rattle.spec_board.specs.Steps.{Step}
use Rattle.spec_board.specs.State.{Entry, State}
use Rattle.spec_board.specs.Results.{entry_of}
use Rattle.spec_board.specs.Effects.{effect, is_among, key_of_entry}
use Rattle.spec_board.specs.Journals.{Legal}
use Rattle.table_laws.proofs.MemberLaws.{Among}
use Rattle.board_laws.proofs.NumberLaws.{Rising, entry_of-among, entry_of-some}
use Rattle.board_laws.proofs.Origins.{IsNew, Was, was, origin}
use Rattle.board_laws.proofs.Apart.{AreEntriesApart, made_le}
use Rattle.given_steps.specs.Keys.{IsKeyOfEntry}

-- ---- a step

pub keys_stay : (run : Run) (port limit : ℕ) (s : State) → AreEntriesApart s → (step : Step) → Legal run port limit s step
    → (number : ℕ) (key : List ℕ) → IsKeyOfEntry s number key → IsKeyOfEntry (effect run port s step) number key
keys_stay run port limit s apart step legal number key is =
    let t = effect run port s step in record {
      made = (let more = made_le run port limit s apart step legal in let was = is.made in omega (arith, more, was));
      same = λ e live.
          let there = entry_of-some number t.entries e live in
          by_origin e there.1 (was run port s t e (origin run port limit s apart.rising step legal e there.0));
    }
  where
    by_origin : (e : Entry) → e.number ≡ number → ((d : Entry) × Was s e d) ⊎ IsNew run port s (effect run port s step) e → key ≡ e.key
    by_origin e named (inl (d, w)) =
        let found : entry_of number s.entries ≡ Some d = subst (λ n. entry_of n s.entries ≡ Some d) (sym w.number ∙ named) (entry_of-among d s.entries apart.rising w.before) in
        is.same d found ∙ sym w.key
    by_origin e named (inr new) = absurd (let n = new.number in let m = is.made in omega (arith, n, m, named))

-- ---- an entry that is listed

-- it is live, and so it was made
pub key_listed : (s : State) → AreEntriesApart s → (number : ℕ) (key : List ℕ) → option_map (λ (e : Entry). e.key) (entry_of number s.entries) ≡ Some key → IsKeyOfEntry s number key
key_listed s apart number key is = at (entry_of number s.entries) refl is
  where
    at : (o : Option Entry) → entry_of number s.entries ≡ o → option_map (λ (e : Entry). e.key) o ≡ Some key → IsKeyOfEntry s number key
    at None found is = absurd (cc is)
    at (Some d) found is =
        let there = entry_of-some number s.entries d found in record {
          made = (let below = apart.made d there.0 in let named = there.1 in omega (arith, below, named));
          same = λ e live. (let k : d.key ≡ key = cc is in let o : d ≡ e = cc (sym found ∙ live) in sym k ∙ ap (λ (x : Entry). x.key) o);
        }

-- the key is that of the entry where it is live
pub key_there : (s : State) (number : ℕ) (key : List ℕ) → IsKeyOfEntry s number key → IsSome (entry_of number s.entries) → key ≡ key_of_entry (entry_of number s.entries)
key_there s number key is live = at (entry_of number s.entries) refl live
  where
    at : (o : Option Entry) → entry_of number s.entries ≡ o → IsSome o → key ≡ key_of_entry o
    at None found live = absurd (cc live)
    at (Some e) found live = is.same e found

-- ---- the least that is listed above a number

pub found_among : (a n : ℕ) (ns : List ℕ) → find (λ k. nat_lt a k) ns ≡ Some n → is_among ns n ≡ true
found_among a n [] found = absurd (cc found)
found_among a n (k ∷ ns) found = at (nat_lt a k) found (found_among a n ns)
  where
    at : (t : Bool) → (if t then Some k else find (λ k. nat_lt a k) ns) ≡ Some n → (find (λ k. nat_lt a k) ns ≡ Some n → is_among ns n ≡ true) → is_among (k ∷ ns) n ≡ true
    at true found others = let q : k ≡ n = cc found in rw (eq-eqb k n q) refl
    at false found others = or_right (k == n) (is_among ns n) (others found)

pub least_above : (a n m : ℕ) (ns : List ℕ) → Rising ns → find (λ k. nat_lt a k) ns ≡ Some n → Among m ns → a + 1 ≤ m → n ≤ m
least_above a n m [] rises found among above = absurd among
least_above a n m (k ∷ ns) rises found among above = at (nat_lt a k) refl found among (λ f later. least_above a n m ns rises.1 f later above)
  where
    at : (t : Bool) → nat_lt a k ≡ t → (if t then Some k else find (λ k. nat_lt a k) ns) ≡ Some n → (m ≡ k) ⊎ Among m ns
        → (find (λ k. nat_lt a k) ns ≡ Some n → Among m ns → n ≤ m) → n ≤ m
    at true is found (inl e) others = let q : k ≡ n = cc found in omega (arith, q, e)
    at true is found (inr later) others = let q : k ≡ n = cc found in let l = rises.0 m later in omega (arith, q, l)
    at false is found (inl e) others = absurd (false≢true (sym is ∙ lt-ltb a k (omega (arith, e, above))))
    at false is found (inr later) others = others found later

pub found_above : (a n : ℕ) (ns : List ℕ) → find (λ k. nat_lt a k) ns ≡ Some n → a < n
found_above a n [] found = absurd (cc found)
found_above a n (k ∷ ns) found = at (nat_lt a k) refl found (found_above a n ns)
  where
    at : (t : Bool) → nat_lt a k ≡ t → (if t then Some k else find (λ k. nat_lt a k) ns) ≡ Some n → (find (λ k. nat_lt a k) ns ≡ Some n → a < n) → a < n
    at true is found others = let q : k ≡ n = cc found in let l = ltb-true a k is in omega (arith, q, l)
    at false is found others = others found

pub none_above : (a m : ℕ) (ns : List ℕ) → find (λ k. nat_lt a k) ns ≡ None → Among m ns → a + 1 ≤ m → ⊥
none_above a m [] found among above = absurd among
none_above a m (k ∷ ns) found among above = at (nat_lt a k) refl found among (λ f later. none_above a m ns f later above)
  where
    at : (t : Bool) → nat_lt a k ≡ t → (if t then Some k else find (λ k. nat_lt a k) ns) ≡ None → (m ≡ k) ⊎ Among m ns
        → (find (λ k. nat_lt a k) ns ≡ None → Among m ns → ⊥) → ⊥
    at true is found among others = absurd (cc found)
    at false is found (inl e) others = false≢true (sym is ∙ lt-ltb a k (omega (arith, e, above)))
    at false is found (inr later) others = others found later
