use Rattle.std.proofs.Common.{◌≡◌, ℕ, ◌+◌, List, [], ◌∷◌, ◌++◌, length, sym, ap, ap₂, ◌∙◌, subst, arith}
use Rattle.spec_tables.specs.Bundles.{AreBundles}
use Rattle.rule_tables.specs.History.{History, applied}
use Rattle.table_laws.proofs.Bundles.{bundles-push}
use Rattle.rule_tables.proofs.versions.VersionedRules.apply.Goals as goal

pub invariant_of-self-2 : goal.invariant_of-self-2
invariant_of-self-2 c =
    let before : ℕ = applied c.self.inside.edited.history in
    let more : ℕ = length c.args.bundle.items in
    let count : applied c.apply_all.new.self.history ≡ before + more =
    omega (arith, c.apply_all.ensures.applied, ap applied c.in_ok-reserve-2.ensures.same) in
    let items : c.push_reserved.new.self.items ≡ c.self.inside.bundles.items ++ (before + more) ∷ [] =
    c.push_reserved.ensures.items
    ∙ ap₂ (λ (list : List ℕ) (n : ℕ). list ++ n ∷ []) c.in_ok-reserve.ensures.items (c.applied-applied.ensures.applied ∙ count) in
    let pushed : AreBundles (c.self.inside.bundles.items ++ (before + more) ∷ []) (before + more) =
    bundles-push c.self.inside.bundles.items before more c.self.invariant.0 c.requires.some in (
      subst (λ (n : ℕ). AreBundles c.push_reserved.new.self.items n) (sym count) (subst (λ (list : List ℕ). AreBundles list (before + more)) (sym items) pushed),
      omega (arith, count, ap (λ (h : History). applied h.edits) c.self.view_is, c.requires.few),
    )
