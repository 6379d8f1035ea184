-- The winner among all rules of a table, from the winners of the masks.
use Rattle.std.proofs.Common.{◌≡◌, ℕ, ◌≤◌, Bool, true, false, ◌&&◌, ◌||◌, ◌==◌, nat_lt, nat_le, if◌then◌else◌, List, [], ◌∷◌, ◌++◌, Option, Some, None, inl, inr, refl, sym, ap, ◌∙◌, arith, eq-eqb}
use Rattle.std.specs.Option.{option_map}
use Rattle.std.proofs.lemmas.Bool.{cond-true, cond-false, false≢true}
use Rattle.std.proofs.lemmas.Bool.Decides.{nat_tests}
use Rattle.spec_tables.specs.Rules.{Rule, is_matched, better, winner}
use Rattle.spec_xlate.specs.Lookup.{priority_to_beat}
use Rattle.table_laws.proofs.MemberLaws.{Among, Among-flat_map, Among_in-flat_map, list_any-Among}
use Rattle.table_laws.proofs.WinnerLaws.{IsWinner, IsBestOf, winner-IsWinner}
use Rattle.ovs_fields.specs.Packed.{bits}
use Rattle.staged_lookup.specs.declared.rank.Rank.{Rank}
use Rattle.tuple_classifier.specs.declared.subtable.Subtable.{Subtable}
use Rattle.staged_lookup.specs.Numbered.{AreDistinct}
use Rattle.tuple_classifier.specs.Parts.{AreSubtablesOf, of_mask, by_masks, reaches}
use Rattle.tuple_classifier.specs.Ranks.{rank_of, is_outranked, better_rank, best_of_pair, floor_of}
use Rattle.tuple_classifier.proofs.PartLaws.{in_part, within}
use Rattle.staged_lookup.proofs.Removed.{distinct_tail, none_like_first}
use Rattle.staged_lookup.proofs.RankLaws.{rank-better}

-- the rank of the winner
abbrev pub best_in : List Rule → List ℕ → Option Rank
best_in rs key = option_map rank_of (winner rs key)

-- ---- the better of two is associative

outranked_trans : (p q s n m k : ℕ) → (nat_lt p q || ((p == q) && nat_lt m n)) ≡ true → (nat_lt q s || ((q == s) && nat_lt k m)) ≡ true
    → (nat_lt p s || ((p == s) && nat_lt k n)) ≡ true
outranked_trans p q s n m k = grind (arith, nat_tests)

unoutranked_trans : (p q s n m k : ℕ) → (nat_lt p q || ((p == q) && nat_lt m n)) ≡ false → (nat_lt q s || ((q == s) && nat_lt k m)) ≡ false
    → (nat_lt p s || ((p == s) && nat_lt k n)) ≡ false
unoutranked_trans p q s n m k = grind (arith, nat_tests)

better-three : (r s t : Rank) → better_rank r (better_rank s (Some t)) ≡ best_of_pair (better_rank r (Some s)) (Some t)
better-three r s t = at (is_outranked r s) (is_outranked s t) refl refl
  where
    at : (u v : Bool) → is_outranked r s ≡ u → is_outranked s t ≡ v
        → better_rank r (if v then Some t else Some s) ≡ best_of_pair (if u then Some s else Some r) (Some t)
    at true true e f =
        cond-true (is_outranked r t) (Some t) (Some r) (outranked_trans r.priority s.priority t.priority r.number s.number t.number e f)
        ∙ sym (cond-true (is_outranked s t) (Some t) (Some s) f)
    at true false e f = cond-true (is_outranked r s) (Some s) (Some r) e ∙ sym (cond-false (is_outranked s t) (Some t) (Some s) f)
    at false true e f = refl
    at false false e f =
        cond-false (is_outranked r s) (Some s) (Some r) e
        ∙ sym (cond-false (is_outranked r t) (Some t) (Some r) (unoutranked_trans r.priority s.priority t.priority r.number s.number t.number e f))

pub better-two : (r : Rank) (o p : Option Rank) → better_rank r (best_of_pair o p) ≡ best_of_pair (better_rank r o) p
better-two r None p = refl
better-two r (Some s) None = at (is_outranked r s)
  where
    at : (u : Bool) → (if u then Some s else Some r) ≡ best_of_pair (if u then Some s else Some r) None
    at true = refl
    at false = refl
better-two r (Some s) (Some t) = better-three r s t

best-cons : (key : List ℕ) (r : Rule) (rs : List Rule) (t : Bool) → is_matched key r.matching ≡ t → best_in (r ∷ rs) key ≡ (if t then better_rank (rank_of r) (best_in rs key) else best_in rs key)
unfolding winner
best-cons key r rs true e = ap (option_map rank_of) (cond-true (is_matched key r.matching) (better r (winner rs key)) (winner rs key) e) ∙ rank-better r (winner rs key)
best-cons key r rs false e = ap (option_map rank_of) (cond-false (is_matched key r.matching) (better r (winner rs key)) (winner rs key) e)

pub best-none : (key : List ℕ) → best_in [] key ≡ None
unfolding winner
best-none key = refl

pub best-append : (key : List ℕ) (xs ys : List Rule) → best_in (xs ++ ys) key ≡ best_of_pair (best_in xs key) (best_in ys key)
best-append key [] ys = sym (ap (λ (o : Option Rank). best_of_pair o (best_in ys key)) (best-none key))
best-append key (r ∷ xs) ys = at (is_matched key r.matching) refl (best-append key xs ys)
  where
    at : (u : Bool) → is_matched key r.matching ≡ u → best_in (xs ++ ys) key ≡ best_of_pair (best_in xs key) (best_in ys key)
        → best_in (r ∷ xs ++ ys) key ≡ best_of_pair (best_in (r ∷ xs) key) (best_in ys key)
    at true e ih =
        best-cons key r (xs ++ ys) true e ∙ ap (better_rank (rank_of r)) ih ∙ better-two (rank_of r) (best_in xs key) (best_in ys key)
        ∙ sym (ap (λ (o : Option Rank). best_of_pair o (best_in ys key)) (best-cons key r xs true e))
    at false e ih = best-cons key r (xs ++ ys) false e ∙ ih ∙ sym (ap (λ (o : Option Rank). best_of_pair o (best_in ys key)) (best-cons key r xs false e))

-- ---- a mask whose rules are all of less priority

below : (p q n m : ℕ) → nat_le p q ≡ false → (nat_lt q p || ((q == p) && nat_lt n m)) ≡ true
below p q n m h = grind (arith, nat_tests)

from_zero : (n : ℕ) → nat_le 0 n ≡ true
from_zero n = grind (arith, nat_tests)

pub passed_over : (key : List ℕ) (part : List Rule) (best : Option Rank) → reaches (floor_of best) part ≡ false → best_of_pair (best_in part key) best ≡ best
unfolding IsWinner
passed_over key part best none = at best (winner part key) none (winner-IsWinner part key)
  where
    at : (best : Option Rank) (o : Option Rule) → reaches (floor_of best) part ≡ false → IsWinner part key o → best_of_pair (option_map rank_of o) best ≡ best
    at best None none w = refl
    at None (Some w) none b = absurd (false≢true (sym (list_any-Among (λ (r : Rule). nat_le 0 r.priority) w part b.is_rule none) ∙ from_zero w.priority))
    at (Some b) (Some w) none h =
        cond-true (is_outranked (rank_of w) b) (Some b) (Some (rank_of w))
        (below b.priority w.priority b.number w.number (list_any-Among (λ (r : Rule). nat_le b.priority r.priority) w part h.is_rule none))

pub floor_beats : (best : Option Rank) (o : Option Rule) → best ≡ option_map rank_of o → floor_of best ≡ priority_to_beat o
floor_beats best o is = ap floor_of is ∙ at o
  where
    at : (o : Option Rule) → floor_of (option_map rank_of o) ≡ priority_to_beat o
    at None = refl
    at (Some r) = refl

pub number_of_best : (best : Option Rank) (o : Option Rule) → best ≡ option_map rank_of o → option_map (λ (r : Rank). r.number) best ≡ option_map (λ (r : Rule). r.number) o
number_of_best best o is = ap (option_map (λ (r : Rank). r.number)) is ∙ at o
  where
    at : (o : Option Rule) → option_map (λ (r : Rank). r.number) (option_map rank_of o) ≡ option_map (λ (r : Rule). r.number) o
    at None = refl
    at (Some r) = refl

-- ---- the rules by masks are the rules

pub record Alike {X : Type 0} (xs ys : List X) : Type 0 where
  pub to : (x : X) → Among x xs → Among x ys
  pub back : (x : X) → Among x ys → Among x xs

by_masks_alike : (ss : List Subtable) (rs : List Rule) → AreSubtablesOf ss rs → Alike rs (by_masks rs ss)
by_masks_alike ss rs are = record {
  to = λ r m. let w = within ss rs are r m in Among_in-flat_map (λ (s : Subtable). of_mask (bits s.staged.mask) rs) r w.subtable ss w.there w.in_its;
  back = λ r m. let a = Among-flat_map (λ (s : Subtable). of_mask (bits s.staged.mask) rs) r ss m in (in_part (bits a.0.staged.mask) rs r a.2).0;
}

-- of distinct rules two with the same number are the same
pub one_of_number : (rs : List Rule) → AreDistinct rs → (r s : Rule) → Among r rs → Among s rs → r.number ≡ s.number → r ≡ s
one_of_number [] distinct r s m n e = absurd m
one_of_number (x ∷ rs) distinct r s (inl p) (inl q) e = p ∙ sym q
one_of_number (x ∷ rs) distinct r s (inl p) (inr n) e =
    absurd (false≢true (sym (none_like_first x rs distinct s n) ∙ eq-eqb s.number x.number (sym e ∙ ap (λ (y : Rule). y.number) p)))
one_of_number (x ∷ rs) distinct r s (inr m) (inl q) e =
    absurd (false≢true (sym (none_like_first x rs distinct r m) ∙ eq-eqb r.number x.number (e ∙ ap (λ (y : Rule). y.number) q)))
one_of_number (x ∷ rs) distinct r s (inr m) (inr n) e = one_of_number rs (distinct_tail x rs distinct) r s m n e

-- the winner goes by which rules there are, in whatever order they stand
winner_alike : (xs ys : List Rule) (key : List ℕ) → Alike xs ys → AreDistinct xs → winner xs key ≡ winner ys key
unfolding IsWinner
winner_alike xs ys key h distinct = at (winner xs key) (winner ys key) (winner-IsWinner xs key) (winner-IsWinner ys key)
  where
    equal : (v w : Rule) → IsBestOf xs key v → IsBestOf ys key w → v ≡ w
    equal v w a b =
        let up : w.priority ≤ v.priority = a.highest w (h.back w b.is_rule) b.matches in
        let down : v.priority ≤ w.priority = b.highest v (h.to v a.is_rule) a.matches in
        let alike : v.priority ≡ w.priority = omega arith in
        let first : v.number ≤ w.number = a.least w (h.back w b.is_rule) b.matches (sym alike) in
        let second : w.number ≤ v.number = b.least v (h.to v a.is_rule) a.matches alike in
        one_of_number xs distinct v w a.is_rule (h.back w b.is_rule) (omega arith)

    at : (o p : Option Rule) → IsWinner xs key o → IsWinner ys key p → o ≡ p
    at None None a b = refl
    at (Some v) (Some w) a b = ap Some (equal v w a b)
    at None (Some w) a b = let e : true ≡ false = sym (b.matches) ∙ a w (h.back w b.is_rule) in absurd (false≢true (sym e))
    at (Some v) None a b = let e : true ≡ false = sym (a.matches) ∙ b v (h.to v a.is_rule) in absurd (false≢true (sym e))

pub best_of_all : (key : List ℕ) (rs : List Rule) (ss : List Subtable) (best : Option Rank) → AreSubtablesOf ss rs → AreDistinct rs → best ≡ best_in (by_masks rs ss) key → best ≡ best_in rs key
best_of_all key rs ss best are distinct is = is ∙ ap (option_map rank_of) (sym (winner_alike rs (by_masks rs ss) key (by_masks_alike ss rs are) distinct))
