-- What the signatures of rules tell of an edit.
use Rattle.std.proofs.Common.{◌≡◌, ℕ, zero, suc, Option, Some, None, Bool, true, false, ◌&&◌, not, is_some, if◌then◌else◌, List, [], ◌∷◌, length, map, get_or, slice_get, refl, sym, ap, ap₂, ◌∙◌, inl, inr, arith}
use Rattle.std.specs.Prelude.{slice_set}
use Rattle.std.specs.Option.{option_map}
use Rattle.std.proofs.lemmas.List.{length-map}
use Rattle.std.proofs.lemmas.Option.{get_or_from_slice_get, slice_get-map, same_Some}
use Rattle.std.proofs.lemmas.Bool.{false≢true}
use Rattle.spec_tables.specs.declared.edit_word.EditWord.{EditWord}
use Rattle.spec_tables.specs.declared.edit_word.EditWord.TheVariants.{Add, Modify, ModifyStrict, Delete, DeleteStrict}
use Rattle.spec_tables.specs.Rules as tables
use Rattle.spec_tables.specs.Edits.{Edit, is_named_by, is_reached_by}
use Rattle.rule_tables.specs.declared.signatures.signature.Signature.{Signature}
use Rattle.rule_tables.specs.Signatures.{includes}
use Rattle.rule_tables.specs.declared.rule.Rule.{Rule}
use Rattle.rule_tables.specs.declared.stored.StoredRule.{StoredRule}
use Rattle.rule_tables.specs.Included.{IsNormalised, IsIncludedIn}
use Rattle.rule_tables.specs.Signed.{signature_in}
use Rattle.rule_tables.specs.declared.givings.Giving.{Giving}
use Rattle.rule_tables.specs.declared.givings.GivingLog.{GivingLog}
use Rattle.rule_tables.specs.Givings.{Becomes, AreGiven, IsLogged}
use Rattle.rule_tables.specs.Stored.{is_picked_by, picks, acts_on, ended, ended_by, with_end, signatures_in, IsWanted}
use Rattle.rule_tables.specs.Views.{rule_view}

pub picked_included : ((e : Edit) (r : tables.Rule) → IsNormalised r.matching → IsNormalised e.matching → is_reached_by e r ≡ true → IsIncludedIn e r)
    → ((e : Edit) (r : tables.Rule) → is_named_by e r ≡ true → IsIncludedIn e r)
    → (e : Edit) (r : Rule) → IsNormalised e.matching → picks e r ≡ true → IsIncludedIn e (rule_view r [])
picked_included reached named e r normal picked = at e.word picked
  where
    at : (w : EditWord) → is_picked_by w e (rule_view r []) ≡ true → IsIncludedIn e (rule_view r [])
    at Add p = named e (rule_view r []) p
    at Modify p = reached e (rule_view r []) r.matching.normalised normal p
    at ModifyStrict p = named e (rule_view r []) p
    at Delete p = reached e (rule_view r []) r.matching.normalised normal p
    at DeleteStrict p = named e (rule_view r []) p

-- an edit doesn't act on a rule whose signature lacks something
pub lacking_idle : (e : Edit) (s : StoredRule) (signature wanted : Signature) → signature ≡ signature_in s.rule → includes signature wanted ≡ false → IsWanted wanted e → acts_on e s ≡ false
lacking_idle e s signature wanted signed lacks is_wanted = at (picks e s.rule) refl
  where
    neither : (t : Bool) → (t && false) ≡ false
    neither true = refl
    neither false = refl

    at : (t : Bool) → picks e s.rule ≡ t → (not (is_some s.gone) && picks e s.rule) ≡ false
    at true p = absurd (false≢true (sym lacks ∙ ap (λ (x : Signature). includes x wanted) signed ∙ is_wanted s.rule p))
    at false p = ap (λ (t : Bool). not (is_some s.gone) && t) p ∙ neither (not (is_some s.gone))

-- ---- the signatures of stored rules

-- the one at the place of a rule
pub signature_at : (signatures : List Signature) (xs : List StoredRule) (i place : ℕ) (s : StoredRule) (d : Signature) → signatures ≡ signatures_in xs → place ≡ i → slice_get xs i ≡ Some s → get_or signatures place d ≡ signature_in s.rule
signature_at signatures xs i place s d are here at =
    get_or_from_slice_get signatures place (signature_in s.rule) d
    (ap₂ slice_get are here ∙ slice_get-map (λ (t : StoredRule). signature_in t.rule) xs i ∙ ap (option_map (λ (t : StoredRule). signature_in t.rule)) at)

pub length_signatures : (signatures : List Signature) (xs : List StoredRule) → signatures ≡ signatures_in xs → length signatures ≡ length xs
length_signatures signatures xs are = ap length are ∙ length-map xs (λ (t : StoredRule). signature_in t.rule)

-- they stay where each rule does
pub same_signatures : (xs ys : List StoredRule) → length ys ≡ length xs → ((i : ℕ) (s t : StoredRule) → slice_get xs i ≡ Some s → slice_get ys i ≡ Some t → t.rule ≡ s.rule) → signatures_in ys ≡ signatures_in xs
same_signatures [] [] count each = refl
same_signatures [] (y ∷ ys) count each = absurd (omega (arith, count))
same_signatures (x ∷ xs) [] count each = absurd (omega (arith, count))
same_signatures (x ∷ xs) (y ∷ ys) count each =
    ap₂ (λ (g : Signature) (gs : List Signature). g ∷ gs) (ap signature_in (each 0 x y refl refl)) (same_signatures xs ys (omega (arith, count)) (λ i s t at now. each (suc i) s t at now))

pub signatures_set : (xs : List StoredRule) (i : ℕ) (s t : StoredRule) → slice_get xs i ≡ Some s → t.rule ≡ s.rule → signatures_in (slice_set xs i t) ≡ signatures_in xs
signatures_set [] i s t at same = refl
signatures_set (x ∷ xs) zero s t at same = ap (λ (g : Signature). g ∷ signatures_in xs) (ap signature_in (same ∙ ap (λ (y : StoredRule). y.rule) (sym (same_Some x s at))))
signatures_set (x ∷ xs) (suc i) s t at same = ap (λ (gs : List Signature). signature_in x.rule ∷ gs) (signatures_set xs i s t at same)

pub signatures_ended : (e : Edit) (gone : ℕ) (xs : List StoredRule) → signatures_in (map (ended_by e gone) xs) ≡ signatures_in xs
signatures_ended e gone [] = refl
signatures_ended e gone (x ∷ xs) = ap₂ (λ (g : Signature) (gs : List Signature). g ∷ gs) (at (acts_on e x)) (signatures_ended e gone xs)
  where
    at : (t : Bool) → signature_in (if t then record x { gone = Some gone } else x).rule ≡ signature_in x.rule
    at true = refl
    at false = refl

pub signatures_with_end : (place : Option ℕ) (gone : ℕ) (xs : List StoredRule) → signatures_in (with_end place gone xs) ≡ signatures_in xs
signatures_with_end None gone xs = refl
signatures_with_end (Some place) gone xs = at place xs
  where
    at : (n : ℕ) (ys : List StoredRule) → signatures_in (ended n gone ys) ≡ signatures_in ys
    at n [] = refl
    at zero (y ∷ ys) = refl
    at (suc n) (y ∷ ys) = ap (λ (gs : List Signature). signature_in y.rule ∷ gs) (at n ys)

pub signatures_given : (picked : ℕ → StoredRule → Bool) (n : ℕ) (log new : List Giving) (xs ys : List StoredRule) → AreGiven picked n log new xs ys → signatures_in ys ≡ signatures_in xs
signatures_given picked n log new xs ys given = same_signatures xs ys given.count (λ i s t at now. by (picked i s) s t (given.each i s t at now))
  where
    by : (p : Bool) (s t : StoredRule) → Becomes p n (length log) new s t → t.rule ≡ s.rule
    by p s t (inl (idle, same)) = ap (λ (y : StoredRule). y.rule) same
    by p s t (inr (acts, made)) = ap (λ (y : StoredRule). y.rule) made.becomes

pub signatures_logged : (e : Edit) (n : ℕ) (log new : GivingLog) (xs ys : List StoredRule) → IsLogged e n log new xs ys → signatures_in ys ≡ signatures_in xs
signatures_logged e n log new xs ys (inl (a, b, d, given)) = signatures_given (λ i. acts_on e) n log.givings.items new.givings.items xs ys given
signatures_logged e n log new xs ys (inr (a, b, d, same)) = ap signatures_in same
