use Rattle.std.proofs.Common.{◌≡◌, ℕ, ◌+◌, ◌<◌, ◌≤◌, ◌⊎◌, false, List, length, get_or, inl, inr, sym, ap, ◌∙◌, subst, arith}
use Rattle.std.proofs.lemmas.List.{get_or_read}
use Rattle.std.proofs.lemmas.Bool.{cases_lt}
use Rattle.spec_keys.specs.Keys.{agree, overlap}
use Rattle.spec_tables.specs.Rules as tables
use Rattle.ovs_fields.specs.Packed.{numbers, bits}
use Rattle.rule_tables.specs.declared.matching.Match.{Match}
use Rattle.rule_tables.specs.Views.{match_view}
use Rattle.rule_changes.proofs.ListLaws.{all_mapped}
use Rattle.table_diff.proofs.apart.tells_apart.Goals as goal

-- one match more
next : (P : Match → Type 0) (aside : List Match) (i : ℕ) (m : Match) → i < length aside → m ≡ get_or aside i m → P m
    → ((k : ℕ) (d : Match) → k < i → P (get_or aside k d)) → (k : ℕ) (d : Match) → k < i + 1 → P (get_or aside k d)
next P aside i m within is here before k d lt = at (cases_lt k i)
  where
    at : (k < i) ⊎ (i ≤ k) → P (get_or aside k d)
    at (inl less) = before k d less
    at (inr more) =
        let same : k ≡ i = omega arith in
        subst P (get_or_read aside i m within is d ∙ ap (λ (j : ℕ). get_or aside j d) (sym same)) here

pub matches-preserved : goal.matches-preserved
matches-preserved c =
    let told : Match → Type 0 = λ m. overlap (numbers c.args.key.now) (bits c.args.told.now) (numbers m.key) (bits m.mask) ≡ false in
    let here : told c.matching-item.result =
    sym (c.agree.ensures ∙ ap (λ (m : List ℕ). agree (numbers c.args.key.now) (numbers c.matching-item.result.key) m) c.and.ensures) ∙ c.if-agree.false in
    next told c.args.aside.now c.matches.matching-index c.matching-item.result c.matches-test.true c.matching-item.is here c.matches.invariant

pub returns : goal.returns
returns c is =
    let past = c.matches-test.false in
    all_mapped match_view (λ (m : tables.Match). overlap (numbers c.args.key.now) (bits c.args.told.now) m.key m.mask ≡ false) c.args.aside.now
    (λ k d within. c.matches.invariant k d (omega arith))
