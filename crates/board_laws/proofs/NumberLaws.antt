-- The numbers of entries: they rise, so no two entries have the same.
use Rattle.std.proofs.Common.{◌≡◌, ℕ, ◌<◌, Bool, true, false, ◌==◌, if◌then◌else◌, List, [], ◌∷◌, ◌++◌, map, filter, Some, ◌⊎◌, inl, inr, refl, sym, ap, ap₂, ◌∙◌, subst, arith}
use Rattle.std.proofs.lemmas.Bool.{eqb-true, eq-eqb, ne_eqb, cond-true, cond-false}
use Rattle.spec_board.specs.State.{Entry}
use Rattle.spec_board.specs.Results.{entry_of, numbers_of}
use Rattle.spec_board.specs.Effects.{is_among}
use Rattle.table_laws.proofs.MemberLaws.{Among, Among-append, Among-filter, Among_in-map}
use Rattle.board_laws.proofs.ListLaws.{Among-map, find-some, list_any-some, list_any_among}

-- The numbers rise.
abbrev pub Rising : List ℕ → Type 0
Rising [] = Unit {0}
Rising (n ∷ ns) = ((m : ℕ) → Among m ns → n < m) × Rising ns

pub rising_push : (ns : List ℕ) (n : ℕ) → Rising ns → ((m : ℕ) → Among m ns → m < n) → Rising (ns ++ n ∷ [])
rising_push [] n r h = (λ m a. absurd (none m a), tt)
  where
    none : (m : ℕ) → Among m [] → ⊥
    none m a = a
rising_push (k ∷ ns) n r h = (λ m a. at m (Among-append m ns (n ∷ []) a), rising_push ns n r.1 (λ m a. h m (inr a)))
  where
    at : (m : ℕ) → Among m ns ⊎ Among m (n ∷ []) → k < m
    at m (inl a) = r.0 m a
    at m (inr (inl e)) = let l = h k (inl refl) in omega (arith, l, e)
    at m (inr (inr z)) = absurd z

pub number_among : (e : Entry) (es : List Entry) → Among e es → Among e.number (numbers_of es)
number_among e es m = Among_in-map (λ (x : Entry). x.number) e es m

pub among_number : (n : ℕ) (es : List Entry) → Among n (numbers_of es) → (e : Entry) × Among e es × (n ≡ e.number)
among_number n es m = Among-map (λ (x : Entry). x.number) n es m

pub rising_filter : (p : Entry → Bool) (es : List Entry) → Rising (numbers_of es) → Rising (numbers_of (filter p es))
rising_filter p [] r = tt
rising_filter p (e ∷ es) r = at (p e) (rising_filter p es r.1)
  where
    unfiltered : (m : ℕ) → Among m (numbers_of (filter p es)) → Among m (numbers_of es)
    unfiltered m a =
        let x = among_number m (filter p es) a in
        subst (λ (k : ℕ). Among k (numbers_of es)) (sym x.2) (number_among x.0 es (Among-filter p x.0 es x.1).0)

    at : (t : Bool) → Rising (numbers_of (filter p es)) → Rising (numbers_of (if t then e ∷ filter p es else filter p es))
    at true ih = (λ m a. r.0 m (unfiltered m a), ih)
    at false ih = ih

pub numbers_of-map : (f : Entry → Entry) → ((e : Entry) → (f e).number ≡ e.number) → (es : List Entry) → numbers_of (map f es) ≡ numbers_of es
numbers_of-map f same [] = refl
numbers_of-map f same (e ∷ es) = ap₂ (λ (n : ℕ) (ns : List ℕ). n ∷ ns) (same e) (numbers_of-map f same es)

pub numbers_of-append : (es : List Entry) (e : Entry) → numbers_of (es ++ e ∷ []) ≡ numbers_of es ++ e.number ∷ []
numbers_of-append [] e = refl
numbers_of-append (d ∷ es) e = ap (λ (ns : List ℕ). d.number ∷ ns) (numbers_of-append es e)

-- an entry is the one of its number
pub entry_of-among : (e : Entry) (es : List Entry) → Rising (numbers_of es) → Among e es → entry_of e.number es ≡ Some e
entry_of-among e [] r m = absurd m
entry_of-among e (d ∷ es) r (inl q) =
    cond-true (d.number == e.number) (Some d) (entry_of e.number es) (eq-eqb d.number e.number (ap (λ (x : Entry). x.number) (sym q)))
    ∙ ap Some (sym q)
entry_of-among e (d ∷ es) r (inr m) =
    let l = r.0 e.number (number_among e es m) in
    cond-false (d.number == e.number) (Some d) (entry_of e.number es) (ne_eqb d.number e.number (λ q. omega (arith, l, q)))
    ∙ entry_of-among e es r.1 m

pub entry_of-some : (n : ℕ) (es : List Entry) (e : Entry) → entry_of n es ≡ Some e → Among e es × (e.number ≡ n)
entry_of-some n es e h = let r = find-some (λ (x : Entry). x.number == n) es e h in (r.0, eqb-true e.number n r.1)

pub one_of_number : (e f : Entry) (es : List Entry) → Rising (numbers_of es) → Among e es → Among f es → e.number ≡ f.number → e ≡ f
one_of_number e f es r me mf q =
    let x : Some e ≡ Some f = sym (entry_of-among e es r me) ∙ ap (λ (n : ℕ). entry_of n es) q ∙ entry_of-among f es r mf in cc x

pub is_among-Among : (ns : List ℕ) (n : ℕ) → is_among ns n ≡ true → Among n ns
is_among-Among ns n h = let r = list_any-some (λ (m : ℕ). m == n) ns h in subst (λ (k : ℕ). Among k ns) (eqb-true r.0 n r.2) r.1

pub Among-is_among : (ns : List ℕ) (n : ℕ) → Among n ns → is_among ns n ≡ true
Among-is_among ns n m = list_any_among (λ (k : ℕ). k == n) n ns m (eq-eqb n n refl)
