use Rattle.std.proofs.Common.{arith, ap, length}
use Rattle.edit_script.specs.ScriptViews.{kept_view}
use Rattle.edit_script.proofs.Bundling.{applied_so_far}
use Rattle.edit_script.proofs.Told.{length_told}
use Rattle.edit_script.proofs.script.with_bundle.Goals as goal

pub apply_bundle-requires-clause-few : goal.apply_bundle-requires-clause-few
apply_bundle-requires-clause-few c rules is =
    let k = c.requires.kept in
    let s = kept_view c.args.kept in
    let all = applied_so_far s.edits c.args.kept.pending.items s.bundles rules (rw is at k) in
    omega (arith, all, length_told c.args.kept.said, c.requires.few, ap (λ v. length v.items) c.replace-bundle.ensures.value)
