-- Tables of bare rules have the rules with their cookies and actions too, which lookups don't read: so a lookup finds the
-- same winner and consults the same bits.
use Rattle.std.proofs.Common.{◌≡◌, ℕ, ◌+◌, Bool, ◌==◌, if◌then◌else◌, List, [], ◌∷◌, map, None, refl, sym, ap, ap₂, ◌∙◌, subst, arith}
use Rattle.std.specs.List.{count_by}
use Rattle.spec_keys.specs.Keys.{same}
use Rattle.spec_tables.specs.Rules.{Rule, rules_in, winner}
use Rattle.spec_xlate.specs.Lookup.{consults}
use Rattle.table_laws.proofs.MemberLaws.{Among_in-map}
use Rattle.ovs_fields.specs.Packed.{bits}
use Rattle.rule_tables.specs.Bare.{bare}
use Rattle.address_prefixes.specs.Addresses.{AreOf}
use Rattle.address_prefixes.proofs.AddressLaws.{are_same}
use Rattle.staged_lookup.specs.Numbered.{AreDistinct}
use Rattle.staged_lookup.specs.Subtables as lookup
use Rattle.staged_lookup.proofs.AlikeRules.{subtable_alike}
use Rattle.staged_lookup.proofs.Members.{count-cons}
use Rattle.tuple_classifier.specs.declared.subtable.Subtable.{Subtable}
use Rattle.tuple_classifier.specs.declared.table.Table.{Table}
use Rattle.tuple_classifier.specs.Kept.{by_place}
use Rattle.tuple_classifier.specs.Parts.{AreSubtablesOf, of_mask}
use Rattle.tuple_classifier.specs.Subtables.{IsSubtableOf}
use Rattle.tuple_classifier.specs.Tables.{IsTableOf}
use Rattle.tuple_classifier.proofs.AdvanceLaws.{bare_filter}

-- ---- nothing to look at

pub winner_of_none : (key : List ℕ) → winner [] key ≡ None
unfolding winner
winner_of_none key = refl

pub consults_of_none : (key : List ℕ) → consults [] key ≡ []
unfolding winner consults
consults_of_none key = refl

-- ---- bare rules, and the rules

whole : (rs : List Rule) → map (λ (r : Rule). r) rs ≡ rs
whole [] = refl
whole (r ∷ rs) = ap (λ (xs : List Rule). r ∷ xs) (whole rs)

bare_count : (p : Rule → Bool) → ((r : Rule) → p (bare r) ≡ p r) → (rs : List Rule) → count_by p (map bare rs) ≡ count_by p rs
bare_count p alike [] = refl
bare_count p alike (r ∷ rs) =
    count-cons p (bare r) (map bare rs) ∙ ap₂ (λ (t : Bool) (n : ℕ). (if t then 1 else 0) + n) (alike r) (bare_count p alike rs) ∙ sym (count-cons p r rs)

pub seen_distinct : (rs : List Rule) → AreDistinct (map bare rs) → AreDistinct rs
seen_distinct rs distinct n =
    let count = bare_count (λ (r : Rule). r.number == n) (λ r. refl) rs in
    let once = distinct n in
    omega (arith, count, once)

subtable_seen : (s : Subtable) (rs : List Rule) → IsSubtableOf s (map bare rs) → IsSubtableOf s rs
subtable_seen s rs is = record {
  staged = subst (lookup.IsSubtableOf s.staged) (whole rs) (subtable_alike bare (λ (r : Rule). r) (λ r. refl) (λ r. refl) (λ r. refl) s.staged rs is.staged);
  indexed = record { prefixed = is.indexed.prefixed; prioritised = λ n. is.indexed.prioritised n ∙ bare_count (λ (r : Rule). r.priority == n) (λ r. refl) rs };
}

part_bare : (mask : List ℕ) (rs : List Rule) → map bare (of_mask mask rs) ≡ of_mask mask (map bare rs)
part_bare mask rs = bare_filter (λ (r : Rule). same r.matching.mask mask) (λ r. refl) rs

subtables_seen : (ss : List Subtable) (rs : List Rule) → AreSubtablesOf ss (map bare rs) → AreSubtablesOf ss rs
subtables_seen ss rs are = record {
  apart = are.apart;
  each = λ i s at.
      subtable_seen s (of_mask (bits s.staged.mask) rs) (subst (IsSubtableOf s) (sym (part_bare (bits s.staged.mask) rs)) (are.each i s at));
  covered = λ r m. are.covered (bare r) (Among_in-map bare r rs m);
}

table_bare : (table : ℕ) (rules : List Rule) → map bare (rules_in table rules) ≡ rules_in table (map bare rules)
table_bare table rules = bare_filter (λ (r : Rule). r.table == table) (λ r. refl) rules

-- so it is in each table
pub seen_in : (t : Table) (table : ℕ) (rules : List Rule) → IsTableOf t (rules_in table (map bare rules)) → IsTableOf t (rules_in table rules)
seen_in t table rules are = record {
  kept = record {
    subtables = subtables_seen (by_place t.subtables) (rules_in table rules) (subst (AreSubtablesOf (by_place t.subtables)) (sym (table_bare table rules)) are.kept.subtables);
    falling = are.kept.falling;
  };
  prefixed = subst (AreOf t.prefixes) (whole (rules_in table rules))
      (are_same bare (λ (r : Rule). r) (λ r. refl) t.prefixes (rules_in table rules) (subst (AreOf t.prefixes) (sym (table_bare table rules)) are.prefixed));
}

-- where there are none of the one there are none of the other
pub none_seen : (table : ℕ) (rules : List Rule) → rules_in table (map bare rules) ≡ [] → rules_in table rules ≡ []
none_seen table rules none = by (rules_in table rules) (table_bare table rules ∙ none)
  where
    by : (rs : List Rule) → map bare rs ≡ [] → rs ≡ []
    by [] is = refl
    by (r ∷ rs) is = absurd (cc)
