use Rattle.std.proofs.Common.{◌+◌, ◌++◌, ◌∷◌, [], length, ap, arith}
use Rattle.rule_tables.specs.History.{History}
use Rattle.edit_script.proofs.Bundling.{still_none, bundled_rules}
use Rattle.edit_script.proofs.script.apply_bundle.Goals as goal

pub returns-in_default : goal.returns-in_default
returns-in_default c edits bundles made = rw c.in_default.is (still_none edits c.args.bundle.items bundles (bundles ++ (length edits + length c.args.bundle.items) ∷ []) (rw c.in_default.is at made))

pub returns-then-changes-gt-MOST_CHANGES : goal.returns-then-changes-gt-MOST_CHANGES
returns-then-changes-gt-MOST_CHANGES c edits bundles made =
    let now = bundled_rules edits c.args.bundle.items bundles c.in-Some.all.value c.apply.new.self (rw c.in-Some.is at made).0 (rw c.deref_mut.ensures.value at c.in_ok-apply.ensures.bundled) in
    omega (arith, c.changes.ensures, ap (λ (h : History). h.edits.changes) c.deref.ensures, ap (λ (h : History). h.edits.changes) now, c.if-changes-gt-MOST_CHANGES.true)

pub returns-else-changes-gt-MOST_CHANGES : goal.returns-else-changes-gt-MOST_CHANGES
returns-else-changes-gt-MOST_CHANGES c edits bundles made =
    let now = bundled_rules edits c.args.bundle.items bundles c.in-Some.all.value c.apply.new.self (rw c.in-Some.is at made).0 (rw c.deref_mut.ensures.value at c.in_ok-apply.ensures.bundled) in
    (now, omega (arith, c.changes.ensures, ap (λ (h : History). h.edits.changes) c.deref.ensures, ap (λ (h : History). h.edits.changes) now, c.if-changes-gt-MOST_CHANGES.false))
