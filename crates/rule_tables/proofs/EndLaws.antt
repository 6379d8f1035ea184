-- The log of the ends of lives: as rules come, as they go, and as they are given modifications.
use Rattle.std.proofs.Common.{◌≡◌, ℕ, zero, suc, ◌+◌, ◌≤◌, ◌<◌, Bool, true, false, cond, List, [], ◌∷◌, ◌++◌, length, Option, Some, None, refl, sym, ap, ◌∙◌, subst, arith, inl, inr, length-append, zero-add, add_assoc}
use Rattle.std.specs.Prelude.{slice_get, slice_set, count_by, is_some, not}
use Rattle.std.proofs.Math.Nat.{add_comm}
use Rattle.std.proofs.lemmas.List.Sums.{count_by-le-length}
use Rattle.std.proofs.lemmas.Bool.{and_parts}
use Rattle.std.proofs.lemmas.Option.{none-some, same_Some, slice_get_within, slice_get_cases}
use Rattle.spec_tables.specs.Edits.{Edit}
use Rattle.rule_tables.specs.declared.ending.Ending.{Ending}
use Rattle.rule_tables.specs.declared.givings.GivingLog.{GivingLog}
use Rattle.rule_tables.specs.declared.stored.StoredRule.{StoredRule}
use Rattle.rule_tables.specs.Ends.{has_ended, with_ending, IsEnd, AreEnds}
use Rattle.rule_tables.specs.Givings.{Becomes, IsLogged}
use Rattle.rule_tables.specs.Stored.{picks, acts_on, ended, with_end}
use Rattle.rule_tables.proofs.Counts.{count_by-cons}
use Rattle.rule_tables.proofs.Endings.{none_from}
use Rattle.rule_tables.proofs.Ends.{ended_cases, set-ended}
use Rattle.rule_tables.proofs.FilterMaps.{push_cases, slice_get-append, slice_get-push}

-- ---- how many

-- not all end where one doesn't
count_less : (p : StoredRule → Bool) (xs : List StoredRule) (i : ℕ) (x : StoredRule) → slice_get xs i ≡ Some x → p x ≡ false → count_by p xs < length xs
count_less p [] i x at fails = absurd (none-some x at)
count_less p (y ∷ ys) zero x at fails =
    let few : count_by p ys ≤ length ys = count_by-le-length p ys in
    let here : count_by p (y ∷ ys) ≡ count_by p ys =
    count_by-cons p y ys ∙ ap (λ (b : Bool). cond b 1 0 + count_by p ys) (ap p (same_Some y x at) ∙ fails) ∙ zero-add (count_by p ys) in
    omega arith
count_less p (y ∷ ys) (suc i) x at fails =
    let few : count_by p ys < length ys = count_less p ys i x at fails in
    let here : count_by p (y ∷ ys) ≤ count_by p ys + 1 = at_most (p y) (count_by-cons p y ys) in
    omega arith
  where
    at_most : (b : Bool) → count_by p (y ∷ ys) ≡ cond b 1 0 + count_by p ys → count_by p (y ∷ ys) ≤ count_by p ys + 1
    at_most true is = omega arith
    at_most false is = omega arith

-- there is room for the end of a life that hasn't ended
pub ends_room : (log : List Ending) (xs : List StoredRule) (last i : ℕ) (x : StoredRule) → AreEnds log xs last → slice_get xs i ≡ Some x → x.gone ≡ None → length log < length xs
ends_room log xs last i x ends at on =
    let few : count_by has_ended xs < length xs = count_less has_ended xs i x at (ap is_some on) in
    let count : length log ≡ count_by has_ended xs = ends.count in
    omega arith

-- the same, where the place of such a life is known
pub ends_room_at : (log : List Ending) (xs : List StoredRule) (last i : ℕ) → AreEnds log xs last → i < length xs → ((s : StoredRule) → slice_get xs i ≡ Some s → s.gone ≡ None)
    → length log < length xs
ends_room_at log xs last i ends within on =
    elim (slice_get_cases xs i).1 [
      | inl (s, _, at, _) ↦ ends_room log xs last i s ends at (on s at)
      | inr (past, _) ↦ absurd (omega arith)
    ]

pub ends_few : (log : List Ending) (xs : List StoredRule) (last : ℕ) → AreEnds log xs last → length log ≤ length xs
ends_few log xs last ends =
    let count : length log ≡ count_by has_ended xs = ends.count in
    omega (arith, count_by-le-length has_ended xs)

-- ---- as it stands

-- no rules
pub ends_at_first : (log : List Ending) (xs : List StoredRule) (last : ℕ) → log ≡ [] → xs ≡ [] → AreEnds log xs last
ends_at_first log xs last empty none =
    subst (λ (g : List Ending). AreEnds g xs last) (sym empty)
    (subst (λ (stored : List StoredRule). AreEnds [] stored last) (sym none) (record {
      own = λ k e at. absurd (none-some e at);
      whole = λ i gone s at. absurd (none-some s at);
      rising = λ k l d e at. absurd (none-some d at);
      once = λ k l d e at. absurd (none-some d at);
      latest = λ k e at. absurd (none-some e at);
      count = refl;
    }))

-- the same log and rules
pub ends_moved : (log new : List Ending) (xs zs : List StoredRule) (last : ℕ) → new ≡ log → zs ≡ xs → AreEnds log xs last → AreEnds new zs last
ends_moved log new xs zs last same_log same ends =
    subst (λ (g : List Ending). AreEnds g zs last) (sym same_log) (subst (λ (stored : List StoredRule). AreEnds log stored last) (sym same) ends)

pub ends_later : (log : List Ending) (xs : List StoredRule) (last later : ℕ) → last ≤ later → AreEnds log xs last → AreEnds log xs later
ends_later log xs last later le ends = record {
  own = ends.own;
  whole = ends.whole;
  rising = ends.rising;
  once = ends.once;
  latest = λ k e at. let so_far : e.edit ≤ last = ends.latest k e at in omega arith;
  count = ends.count;
}

-- ---- a rule comes

count_push : (p : StoredRule → Bool) (xs : List StoredRule) (x : StoredRule) → p x ≡ false → count_by p (xs ++ x ∷ []) ≡ count_by p xs
count_push p [] x fails = count_by-cons p x [] ∙ ap (λ (b : Bool). cond b 1 0 + count_by p []) fails
count_push p (y ∷ ys) x fails =
    count_by-cons p y (ys ++ x ∷ []) ∙ ap (λ (n : ℕ). cond (p y) 1 0 + n) (count_push p ys x fails) ∙ sym (count_by-cons p y ys)

pub ends_push : (log : List Ending) (xs : List StoredRule) (last : ℕ) (s : StoredRule) → AreEnds log xs last → s.gone ≡ None → AreEnds log (xs ++ s ∷ []) last
ends_push log xs last s ends on = record {
  own = λ k e at.
      let it = ends.own k e at in
      record { rule = it.rule; at = slice_get-append xs (s ∷ []) e.place (slice_get_within xs e.place it.rule it.at) ∙ it.at; gone = it.gone };
  whole = λ i gone t at goes.
      elim (push_cases xs s t i at) [
        | inl earlier ↦ ends.whole i gone t earlier goes
        | inr (latest, is) ↦ absurd (none-some gone (sym (ap (λ (z : StoredRule). z.gone) is ∙ on) ∙ goes))
      ];
  rising = ends.rising;
  once = ends.once;
  latest = ends.latest;
  count = ends.count ∙ sym (count_push has_ended xs s (ap is_some on));
}

-- ---- a life ends

ended_here : (i gone : ℕ) (xs : List StoredRule) (s : StoredRule) → slice_get xs i ≡ Some s → slice_get (ended i gone xs) i ≡ Some (record s { gone = Some gone })
ended_here i gone [] s at = absurd (none-some s at)
ended_here zero gone (x ∷ xs) s at = ap (λ (z : StoredRule). Some (record z { gone = Some gone })) (same_Some x s at)
ended_here (suc i) gone (x ∷ xs) s at = ended_here i gone xs s at

ended_else : (i j gone : ℕ) (xs : List StoredRule) → (j ≡ i → ⊥) → slice_get (ended i gone xs) j ≡ slice_get xs j
ended_else i j gone [] apart = refl
ended_else zero zero gone (x ∷ xs) apart = absurd (apart refl)
ended_else zero (suc j) gone (x ∷ xs) apart = refl
ended_else (suc i) zero gone (x ∷ xs) apart = refl
ended_else (suc i) (suc j) gone (x ∷ xs) apart = ended_else i j gone xs (λ e. apart (ap suc e))

count_ended : (i gone : ℕ) (xs : List StoredRule) (s : StoredRule) → slice_get xs i ≡ Some s → s.gone ≡ None → count_by has_ended (ended i gone xs) ≡ count_by has_ended xs + 1
count_ended i gone [] s at on = absurd (none-some s at)
count_ended zero gone (x ∷ xs) s at on =
    let here : count_by has_ended (x ∷ xs) ≡ count_by has_ended xs =
    count_by-cons has_ended x xs ∙ ap (λ (b : Bool). cond b 1 0 + count_by has_ended xs) (ap has_ended (same_Some x s at) ∙ ap is_some on)
    ∙ zero-add (count_by has_ended xs) in
    let more : count_by has_ended (record x { gone = Some gone } ∷ xs) ≡ 1 + count_by has_ended xs = count_by-cons has_ended (record x { gone = Some gone }) xs in
    more ∙ add_comm 1 (count_by has_ended xs) ∙ sym (ap (λ (n : ℕ). n + 1) here)
count_ended (suc i) gone (x ∷ xs) s at on =
    count_by-cons has_ended x (ended i gone xs) ∙ ap (λ (n : ℕ). cond (has_ended x) 1 0 + n) (count_ended i gone xs s at on)
    ∙ sym (add_assoc (cond (has_ended x) 1 0) (count_by has_ended xs) 1) ∙ sym (ap (λ (n : ℕ). n + 1) (count_by-cons has_ended x xs))

module _ (log : List Ending) (xs : List StoredRule) (last gone i : ℕ) (s : StoredRule) (ends : AreEnds log xs last) (le : last ≤ gone) (at : slice_get xs i ≡ Some s) (on : s.gone ≡ None) where
  abbrev it : Ending
  it = record { place = i; edit = gone }

  -- no end so far is at this place
  elsewhere : (k : ℕ) (e : Ending) → slice_get log k ≡ Some e → e.place ≡ i → ⊥
  elsewhere k e there same =
      let its = ends.own k e there in
      let is_it : its.rule ≡ s = same_Some its.rule s (sym its.at ∙ ap (slice_get xs) same ∙ at) in
      none-some e.edit (sym (ap (λ (z : StoredRule). z.gone) is_it ∙ on) ∙ its.gone)

  pub end_step : AreEnds (log ++ it ∷ []) (ended i gone xs) gone
  end_step = record {
    own = λ k e there.
        elim (push_cases log it e k there) [
          | inl earlier ↦
              let its = ends.own k e earlier in
              record { rule = its.rule; at = ended_else i e.place gone xs (elsewhere k e earlier) ∙ its.at; gone = its.gone }
          | inr (_, is) ↦
              subst (λ (d : Ending). IsEnd (ended i gone xs) d) (sym is) (record { rule = record s { gone = Some gone }; at = ended_here i gone xs s at; gone = refl })
        ];
    whole = λ j g t there goes.
        let from = ended_cases i gone j xs t there in
        elim from.2 [
          | inl (here, is) ↦
              let same : gone ≡ g = same_Some gone g (sym (ap (λ (z : StoredRule). z.gone) is) ∙ goes) in
              (length log, slice_get-push log it ∙ ap (λ (p : ℕ). Some (record { place = p; edit = gone })) (sym here) ∙ ap (λ (n : ℕ). Some (record { place = j; edit = n })) same)
          | inr (_, is) ↦
              let told = ends.whole j g from.0 from.1 (sym (ap (λ (z : StoredRule). z.gone) is) ∙ goes) in
              (told.0, slice_get-append log (it ∷ []) told.0 (slice_get_within log told.0 _ told.1) ∙ told.1)
        ];
    rising = λ k l d e first second lt.
        elim (push_cases log it e l second) [
          | inl later ↦ elim (push_cases log it d k first) [
            | inl earlier ↦ ends.rising k l d e earlier later lt
            | inr (past, _) ↦ let within : l < length log = slice_get_within log l e later in absurd (omega arith)
          ]
          | inr (_, is) ↦
              let its : e.edit ≡ gone = ap (λ (z : Ending). z.edit) is in
              elim (push_cases log it d k first) [
                | inl earlier ↦ let so_far : d.edit ≤ last = ends.latest k d earlier in omega arith
                | inr (_, also) ↦ let other : d.edit ≡ gone = ap (λ (z : Ending). z.edit) also in omega arith
              ]
        ];
    once = λ k l d e first second lt same.
        elim (push_cases log it e l second) [
          | inl later ↦ elim (push_cases log it d k first) [
            | inl earlier ↦ ends.once k l d e earlier later lt same
            | inr (past, _) ↦ let within : l < length log = slice_get_within log l e later in absurd (omega arith)
          ]
          | inr (place, is) ↦ elim (push_cases log it d k first) [
            | inl earlier ↦ elsewhere k d earlier (same ∙ ap (λ (z : Ending). z.place) is)
            | inr (also, _) ↦ absurd (omega arith)
          ]
        ];
    latest = λ k e there.
        elim (push_cases log it e k there) [
          | inl earlier ↦ let so_far : e.edit ≤ last = ends.latest k e earlier in omega arith
          | inr (_, is) ↦ let its : e.edit ≡ gone = ap (λ (z : Ending). z.edit) is in omega arith
        ];
    count =
        let so_far : length log ≡ count_by has_ended xs = ends.count in
        omega (arith, length-append log (it ∷ []), count_ended i gone xs s at on);
  }

-- as the code comes to it
pub ends_set : (log : List Ending) (xs : List StoredRule) (gone i : ℕ) (s : StoredRule) → AreEnds log xs gone → slice_get xs i ≡ Some s → s.gone ≡ None
    → (new : List Ending) (place : ℕ) → place ≡ i → new ≡ log ++ (record { place = place; edit = gone }) ∷ [] → AreEnds new (slice_set xs i (record s { gone = Some gone })) gone
ends_set log xs gone i s ends at on new place here becomes =
    ends_moved (log ++ (record { place = i; edit = gone }) ∷ []) new (ended i gone xs) (slice_set xs i (record s { gone = Some gone })) gone
    (becomes ∙ ap (λ (p : ℕ). log ++ (record { place = p; edit = gone }) ∷ []) here) (set-ended xs i gone s at)
    (end_step log xs gone gone i s ends (omega arith) at on)

-- an edit acts on no rule whose life has ended
pub acts_live : (e : Edit) (s : StoredRule) → acts_on e s ≡ true → s.gone ≡ None
acts_live e s acts = none_from s.gone (and_parts (not (is_some s.gone)) (picks e s.rule) acts).0

-- of the rule at a place, if there is one
pub ends_with_end : (log : List Ending) (xs : List StoredRule) (last gone : ℕ) (old : Option ℕ) → last ≤ gone → AreEnds log xs last
    → ((i : ℕ) → old ≡ Some i → i < length xs) → ((i : ℕ) (s : StoredRule) → old ≡ Some i → slice_get xs i ≡ Some s → s.gone ≡ None)
    → AreEnds (with_ending old gone log) (with_end old gone xs) gone
ends_with_end log xs last gone None le ends there on = ends_later log xs last gone le ends
ends_with_end log xs last gone (Some i) le ends there on =
    elim (slice_get_cases xs i).1 [
      | inl (s, _, at, _) ↦ end_step log xs last gone i s ends le at (on i s refl at)
      | inr (past, _) ↦ let within : i < length xs = there i refl in absurd (omega arith)
    ]

-- a rule that comes in place of a live one, if there is one
pub ends_added : (log : List Ending) (xs : List StoredRule) (last gone : ℕ) → last ≤ gone → AreEnds log xs last → (old : Option ℕ)
    → ((i : ℕ) → old ≡ Some i → i < length xs) → ((i : ℕ) (x : StoredRule) → old ≡ Some i → slice_get xs i ≡ Some x → x.gone ≡ None) → (s : StoredRule) → s.gone ≡ None
    → AreEnds (with_ending old gone log) (with_end old gone (xs ++ s ∷ [])) gone
ends_added log xs last gone le ends old there old_on s on =
    ends_with_end log (xs ++ s ∷ []) last gone old le (ends_push log xs last s ends on)
    (λ i is. let within : i < length xs = there i is in omega (arith, length-append xs (s ∷ [])))
    (λ i x is at.
    elim (push_cases xs s x i at) [
      | inl earlier ↦ old_on i x is earlier
      | inr (_, latest) ↦ ap (λ (y : StoredRule). y.gone) latest ∙ on
    ])

-- ---- rules are given modifications

count_alike : (p : StoredRule → Bool) (xs zs : List StoredRule) → length zs ≡ length xs → ((i : ℕ) (x z : StoredRule) → slice_get xs i ≡ Some x → slice_get zs i ≡ Some z → p z ≡ p x)
    → count_by p zs ≡ count_by p xs
count_alike p [] [] len each = refl
count_alike p [] (z ∷ zs) len each = absurd (omega arith)
count_alike p (x ∷ xs) [] len each = absurd (omega arith)
count_alike p (x ∷ xs) (z ∷ zs) len each =
    count_by-cons p z zs ∙ ap (λ (b : Bool). cond b 1 0 + count_by p zs) (each 0 x z refl refl)
    ∙ ap (λ (n : ℕ). cond (p x) 1 0 + n) (count_alike p xs zs (omega arith) (λ i y w at there. each (suc i) y w at there)) ∙ sym (count_by-cons p x xs)

ends_alike : (log : List Ending) (xs zs : List StoredRule) (last : ℕ) → length zs ≡ length xs → ((i : ℕ) (x z : StoredRule) → slice_get xs i ≡ Some x → slice_get zs i ≡ Some z → z.gone ≡ x.gone)
    → AreEnds log xs last → AreEnds log zs last
ends_alike log xs zs last len each ends = record {
  own = λ k e at.
      let it = ends.own k e at in
      elim (slice_get_cases zs e.place).1 [
        | inl (z, _, there, _) ↦ record { rule = z; at = there; gone = each e.place it.rule z it.at there ∙ it.gone }
        | inr (past, _) ↦ let within : e.place < length xs = slice_get_within xs e.place it.rule it.at in absurd (omega arith)
      ];
  whole = λ i gone z at goes.
      elim (slice_get_cases xs i).1 [
        | inl (x, _, there, _) ↦ ends.whole i gone x there (sym (each i x z there at) ∙ goes)
        | inr (past, _) ↦ let within : i < length zs = slice_get_within zs i z at in absurd (omega arith)
      ];
  rising = ends.rising;
  once = ends.once;
  latest = ends.latest;
  count = ends.count ∙ sym (count_alike has_ended xs zs len (λ i x z at there. ap is_some (each i x z at there)));
}

pub ends_logged : (e : Edit) (n : ℕ) (log new : GivingLog) (xs zs : List StoredRule) (ends : List Ending) (last : ℕ) → IsLogged e n log new xs zs → AreEnds ends xs last → AreEnds ends zs last
ends_logged e n log new xs zs ends last (inl (a, b, d, given)) are =
    ends_alike ends xs zs last given.count (λ i x z at there. by (acts_on e x) x z (given.each i x z at there)) are
  where
    by : (p : Bool) (x z : StoredRule) → Becomes p n (length log.givings.items) new.givings.items x z → z.gone ≡ x.gone
    by p x z (inl (idle, same)) = ap (λ (y : StoredRule). y.gone) same
    by p x z (inr (acts, made)) = ap (λ (y : StoredRule). y.gone) made.becomes
ends_logged e n log new xs zs ends last (inr (a, b, d, same)) are = subst (λ (stored : List StoredRule). AreEnds ends stored last) (sym same) are
