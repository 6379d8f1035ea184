use Rattle.std.proofs.Common.{◌≡◌, ℕ, ◌+◌, ◌<◌, List, [], ◌∷◌, ◌++◌, length, take, refl, sym, ap, ap₂, ◌∙◌, arith, length-append}
use Rattle.std.proofs.lemmas.List.{length-take-le, take_more}
use Rattle.spec_tables.specs.Edits.{Edit}
use Rattle.rule_tables.specs.History.{History, applied, bundled_by, history_of}
use Rattle.rule_tables.proofs.Histories.{applied-edit_history, history-none, history-bundled}
use Rattle.table_laws.proofs.Bundles.{bundles-none, bundles-push}
use Rattle.board_tests.proofs.rows.each_alone.Goals as goal

pub edits-init : goal.edits-init
edits-init c = record {
  rules = c.new-rules.ensures ∙ history-none ∙ ap (history_of []) (sym c.new-bundles.ensures.items);
  whole = bundles-none c.new-bundles.result.items c.new-bundles.ensures.items;
  count = rw c.new-bundles.ensures.items refl;
}

-- one more edit, which is a bundle by itself
module _ (edits : List Edit) (bundles : List ℕ) (n : ℕ) (e : Edit) (lt : n < length edits) (h : History) (so_far : h ≡ history_of (take n edits) bundles) where
  applied_before : applied h.edits ≡ n
  applied_before = ap (λ (g : History). applied g.edits) so_far ∙ applied-edit_history (take n edits) ∙ length-take-le n edits (omega arith)

  module _ (now : History) (is : now ≡ bundled_by (e ∷ []) h) where
    made : now ≡ history_of (take n edits ++ e ∷ []) (bundles ++ (length (take n edits) + 1) ∷ [])
    made = is ∙ ap (bundled_by (e ∷ [])) so_far ∙ history-bundled (take n edits) (e ∷ []) bundles

    applied_after : applied now.edits ≡ n + 1
    applied_after =
        ap (λ (g : History). applied g.edits) made ∙ applied-edit_history (take n edits ++ e ∷ []) ∙ length-append (take n edits) (e ∷ [])
        ∙ ap (λ k. k + 1) (length-take-le n edits (omega arith))

    one_more : take (n + 1) edits ≡ take n edits ++ e ∷ [] → now ≡ history_of (take (n + 1) edits) (bundles ++ (n + 1) ∷ [])
    one_more more =
        made ∙ ap₂ (λ (list : List Edit) (k : ℕ). history_of list (bundles ++ (k + 1) ∷ [])) (sym more) (length-take-le n edits (omega arith))

pub apply_alone-requires : goal.apply_alone-requires
apply_alone-requires c =
    let before = applied_before c.args.edits.now c.edits.bundles.items c.edits.edit-index c.edit-item.result c.edits-test.true c.edits.rules c.edits.invariant.rules in
    omega (arith, before, c.edits-test.true, c.requires)

pub edits-preserved : goal.edits-preserved
edits-preserved c =
    let edits = c.args.edits.now in
    let bundles = c.edits.bundles.items in
    let n = c.edits.edit-index in
    let e = c.edit-item.result in
    let before = c.edits.rules in
    let so_far = c.edits.invariant.rules in
    let lt = c.edits-test.true in
    let now = c.apply_alone.new.rules in
    let is : now ≡ bundled_by (e ∷ []) before = c.in_ok-apply_alone.ensures in
    let more : take (n + 1) edits ≡ take n edits ++ e ∷ [] = take_more edits n e lt ∙ ap (λ (x : Edit). take n edits ++ x ∷ []) (sym c.edit-item.is) in
    let count : c.edits-in-edits.result ≡ n + 1 = c.edits-in-edits.ensures ∙ applied_after edits bundles n e lt before so_far now is in
    let pushed : c.push.new.self.items ≡ bundles ++ (n + 1) ∷ [] = c.in_ok-push.ensures.items ∙ ap (λ (k : ℕ). bundles ++ k ∷ []) count in
    record {
      rules = one_more edits bundles n e lt before so_far now is more ∙ ap (history_of (take (n + 1) edits)) (sym pushed);
      whole = rw pushed (bundles-push bundles n 1 c.edits.invariant.whole (omega arith));
      count = rw pushed (omega (arith, c.edits.invariant.count, length-append bundles ((n + 1) ∷ [])));
    }
