-- Rules that come are put in one by one, and may be taken out again from the last on.
use Rattle.std.proofs.Common.{◌≡◌, ℕ, suc, ◌+◌, ◌<◌, ◌^◌, ◌==◌, List, [], ◌∷◌, ◌++◌, append-nil, append_assoc, not, take, drop, length, Option, Some, inl, refl, sym, ap, ◌∙◌, subst, arith, length-append, eq-eqb}
use Rattle.std.specs.Prelude.{slice_get}
use Rattle.std.proofs.lemmas.Bool.{cond-false}
use Rattle.std.proofs.lemmas.List.Elements.{filter-append}
use Rattle.spec_keys.specs.Keys.{same}
use Rattle.spec_tables.specs.Rules.{Rule, rules_in}
use Rattle.table_laws.proofs.MemberLaws.{Among, Among-filter, Among-append_right}
use Rattle.ovs_fields.specs.Packed.{bits}
use Rattle.rule_tables.specs.Bare.{told}
use Rattle.staged_lookup.specs.Numbered.{AreDistinct, without}
use Rattle.staged_lookup.proofs.Removed.{all_stay}
use Rattle.tuple_classifier.specs.declared.table.Table.{Table}
use Rattle.tuple_classifier.specs.ByTable.{AreClassified, HaveNoRule, HaveRuleOf}
use Rattle.tuple_classifier.specs.Changing.{CanCome}
use Rattle.tuple_classifier.specs.Parts.{of_mask}
use Rattle.tuple_classifier.specs.Ranks.{rank_of}
use Rattle.tuple_classifier.proofs.Lengths.{not_equal}
use Rattle.tuple_classifier.proofs.Rising.{IsRising, rises, rising_front, rising_below, rising_distinct}
use Rattle.tuple_classifier.proofs.TablesLaws.{rules_of}
use Rattle.tuple_classifier.proofs.Told.{told_more, told_around}

-- no rule has a number that is greater than those of all
pub no_rule : (number : ℕ) (ts : List Table) (rules : List Rule) → AreClassified ts rules → ((r : Rule) → Among r rules → r.number < number) → HaveNoRule number ts
no_rule number ts rules are less table i t s at_t at =
    let own = rules_of ts table t (rules_in table rules) at_t (are table) in
    (of_mask (bits s.staged.mask) (rules_in table rules), (own.kept.subtables.each i s at).staged, fresh)
  where
    fresh : (r : Rule) → Among r (of_mask (bits s.staged.mask) (rules_in table rules)) → r.number ≡ number → ⊥
    fresh r m e =
        let a = Among-filter (λ (x : Rule). same x.matching.mask (bits s.staged.mask)) r (rules_in table rules) m in
        let b = Among-filter (λ (x : Rule). x.table == table) r rules a.0 in
        let lt = less r b.0 in
        omega (arith, lt, e)

-- the rule of a place comes behind these and the first that came
module _ (rules : List Rule) (os : List (Option Rule)) (n : ℕ) (r : Rule) (can : CanCome rules (told os)) (at : slice_get os n ≡ Some (Some r)) where
  -- these, and the first that came
  abbrev pub before : List Rule
  before = rules ++ told (take n os)

  whole : rules ++ told os ≡ before ++ r ∷ told (drop (suc n) os)
  whole = ap (λ (xs : List Rule). rules ++ xs) (told_around os n r at) ∙ sym (append_assoc rules (told (take n os)) (r ∷ told (drop (suc n) os)))

  rising : IsRising (before ++ r ∷ told (drop (suc n) os))
  rising = subst IsRising whole (rises (rules ++ told os) can.rising)

  pub come_more : rules ++ told (take (n + 1) os) ≡ before ++ r ∷ []
  come_more = ap (λ (xs : List Rule). rules ++ xs) (told_more os n r at) ∙ sym (append_assoc rules (told (take n os)) (r ∷ []))

  pub come_below : (s : Rule) → Among s before → s.number < r.number
  come_below = rising_below before (told (drop (suc n) os)) r rising

  pub come_few : length before + 1 < 2 ^ 32
  come_few =
      let all = ap length whole in
      let parts = length-append before (r ∷ told (drop (suc n) os)) in
      let few = can.few in
      omega (arith, all, parts, few)

  pub come_new : (ts : List Table) → AreClassified ts before → HaveNoRule r.number ts
  come_new ts are = no_rule r.number ts before are come_below

  last : Among r (before ++ r ∷ [])
  last = Among-append_right r before (r ∷ []) (inl refl)

  pub come_among : Among r (rules ++ told (take (n + 1) os))
  come_among = subst (Among r) (sym come_more) last

  pub come_distinct : AreDistinct (rules ++ told (take (n + 1) os))
  come_distinct =
      subst AreDistinct (sym come_more)
      (rising_distinct (before ++ r ∷ [])
      (rising_front (before ++ r ∷ []) (told (drop (suc n) os)) (subst IsRising (sym (append_assoc before (r ∷ []) (told (drop (suc n) os)))) rising)))

  -- without it they are those before it
  pub come_back : without r.number (rules ++ told (take (n + 1) os)) ≡ before
  come_back =
      ap (without r.number) come_more ∙ filter-append (λ (x : Rule). not (x.number == r.number)) before (r ∷ [])
      ∙ ap (λ (xs : List Rule). without r.number before ++ xs) (cond-false (not (r.number == r.number)) (r ∷ []) [] (ap not (eq-eqb r.number r.number refl)))
      ∙ append-nil (without r.number before)
      ∙ all_stay r.number before (λ s m. not_equal s.number r.number (λ e. let lt = come_below s m in omega (arith, lt, e)))

-- a rule that the tables have
pub has_rule : (ts : List Table) (rules : List Rule) (r : Rule) → AreClassified ts rules → Among r rules → HaveRuleOf ts r.table r.matching (rank_of r)
has_rule ts rules r are m = record { rules = rules; rule = r; are = are; among = m; table_is = refl; matching_is = refl; rank_is = refl }
