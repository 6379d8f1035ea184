-- What the history says of the rules and the bundles that it is seen from.
use Rattle.std.proofs.Common.{◌≡◌, ℕ, ◌+◌, ◌<◌, ◌≤◌, ap, ◌∙◌, subst, arith}
use Rattle.spec_tables.specs.Bundles.{edits_through}
use Rattle.rule_tables.specs.declared.versions.VersionedRules.TheInside.{Inside}
use Rattle.rule_tables.specs.History.{History, applied, newest, rules_after, rules_of}
use Rattle.rule_tables.specs.Versions.{versions_in, AreBundled}
use Rattle.table_laws.proofs.Bundles.{within}

module _ (a : Inside) (h : History) (view : versions_in a ≡ h) where
  -- no version is of more edits than were applied
  pub seen_within : AreBundled a → (v : ℕ) → v ≤ newest h → edits_through h.bundles v ≤ applied a.edited.history
  seen_within are v le =
      let P : History → Type 0 = λ g. v ≤ newest g → edits_through g.bundles v ≤ applied a.edited.history in
      subst P view (λ made. within a.bundles.items (applied a.edited.history) are.0 v made) le

  -- a version is of no more edits than the next
  pub seen_order : AreBundled a → (v : ℕ) → v < newest h → edits_through h.bundles v ≤ edits_through h.bundles (v + 1)
  seen_order are v lt =
      let P : History → Type 0 = λ g. v < newest g → edits_through g.bundles v ≤ edits_through g.bundles (v + 1) in
      subst P view (λ made. let rises : edits_through a.bundles.items v < edits_through a.bundles.items (v + 1) = are.0.rising v made in omega arith) lt

  pub seen_rules_of : (n v : ℕ) → n ≡ edits_through h.bundles v → rules_after a.edited.history n ≡ rules_of h v
  seen_rules_of n v is = ap (rules_after a.edited.history) is ∙ ap (λ (g : History). rules_after g.edits (edits_through h.bundles v)) view
