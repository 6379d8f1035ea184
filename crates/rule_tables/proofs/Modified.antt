-- What modifications make of the stored rules, edit by edit.
use Rattle.std.proofs.Common.{◌≡◌, ℕ, suc, ◌+◌, ◌≤◌, ◌<◌, Bool, true, false, cond, ◌&&◌, List, [], ◌∷◌, ◌++◌, Option, Some, None, refl, sym, ap, ap₂, ◌∙◌, arith, inl, inr}
use Rattle.std.specs.Prelude.{slice_get, nat_lt, nat_le, unwrap_or}
use Rattle.std.specs.List.{fold}
use Rattle.std.specs.Option.{option_map}
use Rattle.std.proofs.lemmas.List.Sums.{fold_push}
use Rattle.std.proofs.lemmas.Bool.{cases_lt, and_left, and_right, le-leb, lt-leb, lt-ltb, le-ltb, cond-false}
use Rattle.spec_tables.specs.declared.edit_word.EditWord.{EditWord}
use Rattle.spec_tables.specs.declared.edit_word.EditWord.TheVariants.{Add, Modify, ModifyStrict, Delete, DeleteStrict}
use Rattle.spec_tables.specs.Rules as tables
use Rattle.spec_tables.specs.Rules.{is_within}
use Rattle.spec_tables.specs.Edits.{Edit, is_in_table, modified, with_actions}
use Rattle.rule_tables.specs.declared.stored.Modification.{Modification}
use Rattle.rule_tables.specs.declared.stored.StoredRule.{StoredRule}
use Rattle.rule_tables.specs.Views.{rule_view}
use Rattle.rule_tables.specs.Stored.{is_picked_by, picks, is_given, given_cookie, later_given, cookie_in, last_given, with_given, stored_in, is_alive, rule_at, rules_at, AreNumbered, AreLives, AreMade}
use Rattle.rule_tables.proofs.FilterMaps.{filter_map_same, map-filter_map}
use Rattle.rule_tables.proofs.Lives.{alive_next}

-- ---- folds

fold_alike : {A B : Type 0} (f g : B → A → B) (z : B) (xs : List A) → ((i : ℕ) (x : A) (b : B) → slice_get xs i ≡ Some x → f b x ≡ g b x) → fold f z xs ≡ fold g z xs
fold_alike f g z [] alike = refl
fold_alike f g z (x ∷ xs) alike = ap (λ b. fold f b xs) (alike 0 x z refl) ∙ fold_alike f g (g z x) xs (λ i y b at. alike (suc i) y b at)

fold_still : {A B : Type 0} (f : B → A → B) (z : B) (xs : List A) → ((x : A) (b : B) → f b x ≡ b) → fold f z xs ≡ z
fold_still f z [] still = refl
fold_still f z (x ∷ xs) still = ap (λ b. fold f b xs) (still x z) ∙ fold_still f z xs still

-- ---- a stored rule

-- it is the same after two numbers of edits by which the same modifications are given
same_given : (made : List Modification) (v w : ℕ) (s : StoredRule) → ((i : ℕ) (m : Modification) → slice_get made i ≡ Some m → is_given v s m ≡ is_given w s m)
    → stored_in made v s ≡ stored_in made w s
same_given made v w s same =
    ap₂ (λ (cookie : ℕ) (o : Option Modification). with_given s cookie o)
    (fold_alike (given_cookie v s) (given_cookie w s) s.rule.cookie made
    (λ i m cookie at. ap (λ (b : Bool). cond b (unwrap_or m.edit.cookie cookie) cookie) (same i m at)))
    (fold_alike (later_given v s) (later_given w s) None made (λ i m last at. ap (λ (b : Bool). cond b (Some m) last) (same i m at)))

-- after the last edit nothing is given
pub settled : (made : List Modification) (last v : ℕ) (s : StoredRule) → AreMade made last → last ≤ v → stored_in made last s ≡ stored_in made v s
settled made last v s all le =
    same_given made last v s (λ i m at.
    let within : m.number ≤ last = all i m at in
    ap (λ (b : Bool). nat_lt s.rule.number m.number && (b && picks m.edit s.rule)) (le-leb m.number last within ∙ sym (le-leb m.number v (omega arith))))

-- up to the edit of its number a rule is as it was added
pub as_added : (made : List Modification) (v : ℕ) (s : StoredRule) → v ≤ s.rule.number → stored_in made v s ≡ rule_view s.rule s.actions
as_added made v s le =
    ap₂ (λ (cookie : ℕ) (o : Option Modification). with_given s cookie o)
    (fold_still (given_cookie v s) s.rule.cookie made (λ m cookie. cond-false (is_given v s m) (unwrap_or m.edit.cookie cookie) cookie (not_given m)))
    (fold_still (later_given v s) None made (λ m last. cond-false (is_given v s m) (Some m) last (not_given m)))
  where
    not_given : (m : Modification) → is_given v s m ≡ false
    not_given m =
        elim (cases_lt s.rule.number m.number) [
          | inl lt ↦
              and_right (nat_lt s.rule.number m.number) (nat_le m.number v && picks m.edit s.rule)
              (and_left (nat_le m.number v) (picks m.edit s.rule) (lt-leb m.number v (omega arith)))
          | inr ge ↦ and_left (nat_lt s.rule.number m.number) (nat_le m.number v && picks m.edit s.rule) (le-ltb s.rule.number m.number ge)
        ]

-- one more modification
stored_in-push : (made : List Modification) (m : Modification) (v : ℕ) (s : StoredRule)
    → stored_in (made ++ m ∷ []) v s ≡ cond (is_given v s m) (with_actions m.edit (stored_in made v s)) (stored_in made v s)
stored_in-push made m v s =
    ap₂ (λ (cookie : ℕ) (o : Option Modification). with_given s cookie o)
    (fold_push (given_cookie v s) s.rule.cookie made m) (fold_push (later_given v s) None made m) ∙ by (is_given v s m)
  where
    by : (b : Bool) → with_given s (cond b (unwrap_or m.edit.cookie (cookie_in made v s)) (cookie_in made v s)) (cond b (Some m) (last_given made v s))
        ≡ cond b (with_actions m.edit (stored_in made v s)) (stored_in made v s)
    by true = refl
    by false = refl

-- an edit picks a rule whatever modifications made of it
pub picked_as : (word : EditWord) (e : Edit) (made : List Modification) (v : ℕ) (s : StoredRule) → is_picked_by word e (stored_in made v s) ≡ is_picked_by word e (rule_view s.rule [])
picked_as word e made v s = by word
  where
    reached : (o : Option ℕ) → (is_in_table o (stored_in made v s) && is_within (stored_in made v s).matching e.matching)
        ≡ (is_in_table o (rule_view s.rule []) && is_within (rule_view s.rule []).matching e.matching)
    reached None = refl
    reached (Some table) = refl

    by : (w : EditWord) → is_picked_by w e (stored_in made v s) ≡ is_picked_by w e (rule_view s.rule [])
    by Add = refl
    by Modify = reached e.table
    by ModifyStrict = refl
    by Delete = reached e.table
    by DeleteStrict = refl

-- ---- the rules after an edit

-- an edit that was not made leaves the rules
pub rules_next : (made : List Modification) (xs : List StoredRule) (last : ℕ) → AreNumbered xs last → AreLives xs last → AreMade made last
    → rules_at made (last + 1) xs ≡ rules_at made last xs
rules_next made xs last numbered lives all =
    filter_map_same (rule_at made (last + 1)) (rule_at made last) xs (λ i x at.
    ap₂ (λ (b : Bool) (r : tables.Rule). cond {A = Option tables.Rule} b (Some r) None)
    (sym (alive_next xs last i x numbered lives at)) (sym (settled made last (last + 1) x all (omega arith))))

-- one more modification leaves what there was before its own edit
pub rules_before_modification : (made : List Modification) (m : Modification) (xs : List StoredRule) (v : ℕ) → v < m.number → rules_at (made ++ m ∷ []) v xs ≡ rules_at made v xs
rules_before_modification made m xs v lt =
    filter_map_same (rule_at (made ++ m ∷ []) v) (rule_at made v) xs (λ i x at.
    ap (λ (r : tables.Rule). cond {A = Option tables.Rule} (is_alive v x) (Some r) None) (stored_in-push made m v x
    ∙ cond-false (is_given v x m) (with_actions m.edit (stored_in made v x)) (stored_in made v x)
    (and_right (nat_lt x.rule.number m.number) (nat_le m.number v && picks m.edit x.rule)
    (and_left (nat_le m.number v) (picks m.edit x.rule) (lt-leb m.number v lt)))))

-- and gives its actions to those that its edit picks
pub rules_modified : (made : List Modification) (m : Modification) (xs : List StoredRule) (last : ℕ) → m.number ≡ last + 1 → AreNumbered xs last → AreLives xs last → AreMade made last
    → rules_at (made ++ m ∷ []) (last + 1) xs ≡ modified (is_picked_by m.edit.word m.edit) m.edit (rules_at made last xs)
rules_modified made m xs last its_number numbered lives all =
    sym (map-filter_map change (rule_at made last) xs
    ∙ filter_map_same (λ x. option_map change (rule_at made last x)) (rule_at (made ++ m ∷ []) (last + 1)) xs each)
  where
    change : tables.Rule → tables.Rule
    change r = cond (is_picked_by m.edit.word m.edit r) (with_actions m.edit r) r

    mapped : (b : Bool) (r : tables.Rule) → option_map change (cond b (Some r) None) ≡ cond b (Some (change r)) None
    mapped true r = refl
    mapped false r = refl

    given : (i : ℕ) (x : StoredRule) → slice_get xs i ≡ Some x → is_given (last + 1) x m ≡ is_picked_by m.edit.word m.edit (stored_in made last x)
    given i x at =
        let within : x.rule.number ≤ last = (numbered i x at).1 in
        ap (λ (b : Bool). b && (nat_le m.number (last + 1) && picks m.edit x.rule)) (lt-ltb x.rule.number m.number (omega arith))
        ∙ ap (λ (b : Bool). b && picks m.edit x.rule) (le-leb m.number (last + 1) (omega arith))
        ∙ sym (picked_as m.edit.word m.edit made last x)

    changed : (i : ℕ) (x : StoredRule) → slice_get xs i ≡ Some x → stored_in (made ++ m ∷ []) (last + 1) x ≡ change (stored_in made last x)
    changed i x at =
        stored_in-push made m (last + 1) x
        ∙ ap₂ (λ (b : Bool) (r : tables.Rule). cond b (with_actions m.edit r) r) (given i x at) (sym (settled made last (last + 1) x all (omega arith)))

    each : (i : ℕ) (x : StoredRule) → slice_get xs i ≡ Some x → option_map change (rule_at made last x) ≡ rule_at (made ++ m ∷ []) (last + 1) x
    each i x at =
        mapped (is_alive last x) (stored_in made last x)
        ∙ ap₂ (λ (b : Bool) (r : tables.Rule). cond {A = Option tables.Rule} b (Some r) None) (alive_next xs last i x numbered lives at) (sym (changed i x at))
