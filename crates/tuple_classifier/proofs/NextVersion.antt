-- The tables of a version become those of the next one.
use Rattle.std.proofs.Common.{◌≡◌, ℕ, ◌+◌, ◌<◌, ◌^◌, List, [], ◌∷◌, ◌++◌, append-nil, length, map, not, take, refl, sym, ap, ◌∙◌, subst}
use Rattle.std.specs.Prelude.{IsPermutation}
use Rattle.spec_tables.specs.Rules.{Rule}
use Rattle.spec_tables.specs.Edits as edits
use Rattle.spec_tables.specs.Live.{is_live}
use Rattle.rule_tables.specs.Bare.{bare, told, AreRising}
use Rattle.rule_tables.specs.Changes.{Changed, came, went}
use Rattle.rule_tables.specs.History.{History, rules_of}
use Rattle.staged_lookup.specs.Numbered.{AreDistinct}
use Rattle.tuple_classifier.specs.declared.table.Table.{Table}
use Rattle.tuple_classifier.specs.ByTable.{AreClassified}
use Rattle.tuple_classifier.specs.Changing.{but, CanCome, CanGo, HaveCome, HaveGone}
use Rattle.tuple_classifier.proofs.AdvanceLaws.{can_go, gone_are}
use Rattle.tuple_classifier.proofs.TableLaws.{distinct_filter}
use Rattle.tuple_classifier.proofs.Told.{told_all, told_none}

but_none : (rules : List Rule) → but [] rules ≡ rules
but_none [] = refl
but_none (r ∷ rules) = ap (λ (rs : List Rule). r ∷ rs) (but_none rules)

module _ (h : History) (v : ℕ) (change : Changed) (came_is : told change.came ≡ came h v) (went_is : IsPermutation (went h v) (told change.went))
    (becomes : map bare (rules_of h (v + 1)) ≡ edits.without (λ (r : Rule). is_live r.number (went h v)) (map bare (rules_of h v)) ++ came h v) (rising : AreRising (map bare (rules_of h v) ++ came h v)) (few : length (map bare (rules_of h v) ++ came h v) < 2 ^ 32) where
  pub may_come : CanCome (map bare (rules_of h v)) (told change.came)
  may_come = subst (CanCome (map bare (rules_of h v))) (sym came_is) (record { rising = rising; few = few })

  pub may_go : CanGo (map bare (rules_of h v) ++ told change.came) (told change.went)
  may_go =
      subst (λ (rs : List Rule). CanGo (map bare (rules_of h v) ++ rs) (told change.went)) (sym came_is)
      (can_go (rules_of h v) (rules_of h (v + 1)) (told change.went) went_is rising)

  next_are : but (told change.went) (map bare (rules_of h v) ++ told change.came) ≡ map bare (rules_of h (v + 1))
  next_are =
      ap (λ (rs : List Rule). but (told change.went) (map bare (rules_of h v) ++ rs)) came_is
      ∙ gone_are (rules_of h v) (rules_of h (v + 1)) (told change.went) went_is ∙ sym becomes

  pub next_distinct : AreDistinct (map bare (rules_of h (v + 1)))
  next_distinct =
      subst AreDistinct next_are
      (distinct_filter (λ (r : Rule). not (is_live r.number (told change.went))) (map bare (rules_of h v) ++ told change.came) may_go.distinct)

  module _ (ts : List Table) where
    none_came : map bare (rules_of h v) ++ told (take 0 change.came) ≡ map bare (rules_of h v)
    none_came = ap (λ (rs : List Rule). map bare (rules_of h v) ++ rs) (told_none change.came) ∙ append-nil (map bare (rules_of h v))

    pub first_came : AreClassified ts (map bare (rules_of h v)) → HaveCome change 0 ts (map bare (rules_of h v))
    first_came are = subst (AreClassified ts) (sym none_came) are

    pub back_came : HaveCome change 0 ts (map bare (rules_of h v)) → AreClassified ts (map bare (rules_of h v))
    back_came are = subst (AreClassified ts) none_came are

    pub all_came : HaveCome change (length change.came) ts (map bare (rules_of h v)) → HaveGone change 0 ts (map bare (rules_of h v) ++ told change.came)
    all_came are =
        subst (AreClassified ts) (sym (ap (λ (gone : List Rule). but gone (map bare (rules_of h v) ++ told change.came)) (told_none change.went) ∙ but_none (map bare (rules_of h v) ++ told change.came)))
        (subst (λ (rs : List Rule). AreClassified ts (map bare (rules_of h v) ++ rs)) (told_all change.came (length change.came) refl) are)

    pub all_gone : HaveGone change (length change.went) ts (map bare (rules_of h v) ++ told change.came) → AreClassified ts (map bare (rules_of h (v + 1)))
    all_gone are =
        subst (AreClassified ts) next_are
        (subst (λ (gone : List Rule). AreClassified ts (but gone (map bare (rules_of h v) ++ told change.came))) (told_all change.went (length change.went) refl) are)
