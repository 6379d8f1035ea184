use Rattle.std.proofs.Common.{◌≡◌, ℕ, ◌<◌, true, false, List, [], length, get_or, slice_get, Some, sym, ap, ◌∙◌, arith, inl, inr}
use Rattle.std.specs.Prelude.{nat_eq}
use Rattle.std.specs.HashMap.{get}
use Rattle.std.proofs.lemmas.Bool.{cases_Bool, both_ways}
use Rattle.std.proofs.lemmas.Option.{none-some, same_Some, slice_get_within, slice_get-get_or}
use Rattle.spec_tables.specs.Edits.{is_named_by}
use Rattle.rule_tables.specs.declared.stored.StoredRule.{StoredRule}
use Rattle.rule_tables.specs.RulePlaces.{rule_hash}
use Rattle.rule_tables.specs.Stored.{names}
use Rattle.rule_tables.specs.Views.{rule_view}
use Rattle.rule_tables.proofs.Finds.{names_live, names_parts}
use Rattle.rule_tables.proofs.Placed.{named_hash}
use Rattle.rule_tables.proofs.places.RulePlaces.find.Goals as goal
use Rattle.rule_tables.proofs.places.RulePlaces.find.Goals.{in-Some+else-is_named, in_default}
use borrow.Author.Count.{below_more}

-- what stands at a place of a slice of the others
at_place : (others items : List ℕ) (k : ℕ) → items ≡ others → k < length items → slice_get others k ≡ Some (get_or items k 0)
at_place others items k same lt = ap (λ xs. slice_get xs k) (sym same) ∙ slice_get-get_or items k 0 lt

pub returns-then-is_named : goal.returns-then-is_named
returns-then-is_named c =
    let it = c.requires.first c.edit_hash-hash.result c.in-Some.field-0.now (sym c.in-Some.ensures.value) in
    (it.0.rule, it.0.at, names_live c.args.edit.now it.0.rule it.0.on (sym (c.is_named.ensures it.0.rule it.0.at) ∙ c.if-is_named.true))

pub is_named-requires-in-others : goal.is_named-requires-in-others
is_named-requires-in-others c =
    let it = c.requires.other c.others.other-index _ (at_place c.args.self.now.others.items c.deref-other-items.result.now c.others.other-index c.deref-other-items.ensures.value c.others-test.true) in
    slice_get_within c.args.rules.now (get_or c.deref-other-items.result.now c.others.other-index 0) it.rule it.at

pub others-preserved : goal.others-preserved
others-preserved c =
    below_more
    (λ k. (i : ℕ) (s : StoredRule) → slice_get c.args.self.now.others.items k ≡ Some i → slice_get c.args.rules.now i ≡ Some s → is_named_by c.args.edit.now (rule_view s.rule []) ≡ false)
    c.others.other-index c.others.invariant (λ i s at there.
    let place : ℕ = get_or c.deref-other-items.result.now c.others.other-index 0 in
    let here = at_place c.args.self.now.others.items c.deref-other-items.result.now c.others.other-index c.deref-other-items.ensures.value c.others-test.true in
    sym (c.is_named-in-others.ensures s (ap (slice_get c.args.rules.now) (same_Some place i (sym here ∙ at)) ∙ there)) ∙ c.if-is_named-2.false)

pub returns-then-is_named-2 : goal.returns-then-is_named-2
returns-then-is_named-2 c =
    let it = c.requires.other c.others.other-index _ (at_place c.args.self.now.others.items c.deref-other-items.result.now c.others.other-index c.deref-other-items.ensures.value c.others-test.true) in
    (it.rule, it.at, names_live c.args.edit.now it.rule it.on (sym (c.is_named-in-others.ensures it.rule it.at) ∙ c.if-is_named-2.true))

pub returns : goal.returns
returns c i s at =
    elim (cases_Bool (names c.args.edit.now s)) [
      | inr other ↦ other
      | inl named ↦
          let parts = names_parts c.args.edit.now s named in
          let mine : is_named_by c.args.edit.now (rule_view s.rule []) ≡ true = parts.1 in
          let hash : c.edit_hash-hash.result ≡ rule_hash s.rule = c.edit_hash-hash.ensures ∙ sym (named_hash c.args.edit.now s.rule mine) in
          elim (c.requires.live i s at parts.0) [
            | inl leads ↦
                let first : get nat_eq c.args.self.now.by_hash c.edit_hash-hash.result ≡ Some i = ap (get nat_eq c.args.self.now.by_hash) hash ∙ leads in
                elim c.match-get.branch [
                  | in-Some+else-is_named w ↦
                      let place : w.in-Some.field-0.now ≡ i = same_Some w.in-Some.field-0.now i (w.in-Some.ensures.value ∙ first) in
                      absurd (both_ways (is_named_by c.args.edit.now (rule_view s.rule [])) (sym (w.is_named.ensures s (ap (slice_get c.args.rules.now) place ∙ at)) ∙ w.if-is_named.false) mine)
                  | in_default w ↦ absurd (none-some i (w.in_default.ensures.value ∙ first))
                ]
            | inr (k, among) ↦
                let within : k < length c.args.self.now.others.items = slice_get_within c.args.self.now.others.items k i among in
                let all : length c.deref-other-items.result.now ≡ length c.args.self.now.others.items = ap length c.deref-other-items.ensures.value in
                absurd (both_ways (is_named_by c.args.edit.now (rule_view s.rule [])) (c.others.invariant k (omega arith) i s among at) mine)
          ]
    ]
