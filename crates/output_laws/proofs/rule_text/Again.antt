-- The edits that add distinct rules make these rules, numbered anew.
use Rattle.std.proofs.Common.{◌≡◌, ℕ, suc, ◌+◌, false, inl, inr, List, [], ◌∷◌, ◌++◌, length, map, refl, sym, ap, ap₂, ◌∙◌, subst, arith, append_assoc, append-nil, length-append, Option, Some}
use Rattle.std.specs.Prelude.{slice_get}
use Rattle.std.specs.Option.{option_map}
use Rattle.std.proofs.lemmas.Option.{slice_get-map}
use Rattle.spec_tables.specs.Rules.{Rule}
use Rattle.spec_tables.specs.Edits.{Edit, without, after_edit, after_edits, is_named_by}
use Rattle.table_laws.proofs.MemberLaws.{Among}
use Rattle.output_laws.specs.Lines.{added}
use Rattle.output_laws.specs.Dumps.{renumbered}
use Rattle.output_laws.proofs.rule_text.Distinct.{names, AreDistinct}

renumbered_push : (a : ℕ) (rules : List Rule) (r : Rule) → renumbered a (rules ++ r ∷ []) ≡ renumbered a rules ++ record r { number = a + length rules } ∷ []
renumbered_push a [] r = let same : a ≡ a + 0 = omega arith in ap (λ (n : ℕ). record r { number = n } ∷ []) same
renumbered_push a (x ∷ rules) r =
    let same : a + 1 + length rules ≡ a + length (x ∷ rules) = omega arith in
    ap (λ (rs : List Rule). record x { number = a } ∷ rs) (renumbered_push (a + 1) rules r)
    ∙ ap (λ (n : ℕ). record x { number = a } ∷ (renumbered (a + 1) rules ++ record r { number = n } ∷ [])) same

-- an edit that names none of them leaves all
none_left_out : (e : Edit) (a : ℕ) (rules : List Rule) → ((r : Rule) → Among r rules → is_named_by e r ≡ false) → without (is_named_by e) (renumbered a rules) ≡ renumbered a rules
none_left_out e a [] h = refl
none_left_out e a (r ∷ rules) h =
    let first : is_named_by e (record r { number = a }) ≡ false = h r (inl refl) in
    rw first (ap (λ (rs : List Rule). record r { number = a } ∷ rs) (none_left_out e (a + 1) rules (λ s there. h s (inr there))))

middle : (done rest : List Rule) (r : Rule) → slice_get (done ++ r ∷ rest) (length done) ≡ Some r
middle [] rest r = refl
middle (x ∷ done) rest r = middle done rest r

-- of those before it
apart_before : (done rest : List Rule) (r : Rule) → AreDistinct (done ++ r ∷ rest) → (s : Rule) → Among s done → names s r ≡ false
apart_before [] rest r d s there = absurd there
apart_before (x ∷ done) rest r d s (inl is) = rw is (d.0 r (among_middle done))
  where
    among_middle : (front : List Rule) → Among r (front ++ r ∷ rest)
    among_middle [] = inl refl
    among_middle (y ∷ front) = inr (among_middle front)
apart_before (x ∷ done) rest r d s (inr more) = apart_before done rest r d.1 s more

one_more : (done rest : List Rule) (r : Rule) → AreDistinct (done ++ r ∷ rest) → after_edits (map added (done ++ r ∷ rest)) (length done) ≡ renumbered 1 done
    → after_edits (map added (done ++ r ∷ rest)) (length (done ++ r ∷ [])) ≡ renumbered 1 (done ++ r ∷ [])
unfolding after_edits
one_more done rest r d so_far =
    let edits = map added (done ++ r ∷ rest) in
    let n = length done in
    let longer : length (done ++ r ∷ []) ≡ suc n = omega (arith, length-append done (r ∷ [])) in
    let next : slice_get edits n ≡ Some (added r) = slice_get-map added (done ++ r ∷ rest) n ∙ ap (option_map added) (middle done rest r) in
    let place : suc n ≡ 1 + n = omega arith in
    ap (after_edits edits) longer
    ∙ ap₂ (λ (o : Option Edit) (rules : List Rule). after_edit (suc n) o rules) next so_far
    ∙ ap (λ (rules : List Rule). rules ++ record r { number = suc n } ∷ []) (none_left_out (added r) 1 done (apart_before done rest r d))
    ∙ ap (λ (k : ℕ). renumbered 1 done ++ record r { number = k } ∷ []) place
    ∙ sym (renumbered_push 1 done r)

all_added : (done rest : List Rule) → AreDistinct (done ++ rest) → after_edits (map added (done ++ rest)) (length done) ≡ renumbered 1 done
    → after_edits (map added (done ++ rest)) (length (done ++ rest)) ≡ renumbered 1 (done ++ rest)
all_added done [] d so_far = rw (append-nil done) (rw (append-nil done) at so_far)
all_added done (r ∷ rest) d so_far =
    let same = append_assoc done (r ∷ []) rest in
    let step = one_more done rest r d so_far in
    let P : List Rule → Type 0 = λ rules. after_edits (map added rules) (length (done ++ r ∷ [])) ≡ renumbered 1 (done ++ r ∷ []) in
    let Q : List Rule → Type 0 = λ rules. after_edits (map added rules) (length rules) ≡ renumbered 1 rules in
    subst Q same (all_added (done ++ r ∷ []) rest (subst AreDistinct (sym same) d) (subst P (sym same) step))

nothing_yet : (edits : List Edit) → after_edits edits 0 ≡ []
unfolding after_edits
nothing_yet edits = refl

pub rules_again : (rules : List Rule) → AreDistinct rules → after_edits (map added rules) (length rules) ≡ renumbered 1 rules
rules_again rules d = all_added [] rules d (nothing_yet (map added rules))
