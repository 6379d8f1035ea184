use Rattle.std.proofs.Common.{ℕ, ap, subst}
use Rattle.spec_tables.specs.Bundles.{AreBundles}
use Rattle.edit_script.specs.Begun.{begun_view}
use Rattle.edit_script.specs.ScriptViews.{kept_view}
use Rattle.edit_script.proofs.Bundling.{all_made}
use Rattle.edit_script.proofs.script.read_script.Goals as goal

pub returns-in-None-clause-bundles : goal.returns-in-None-clause-bundles
returns-in-None-clause-bundles c =
    let formed = c.in_ok-reading.ensures.kept.0 in
    subst (λ (n : ℕ). AreBundles c.in_ok-reading.reading.kept.said.bundles.items n) (formed.whole (ap begun_view c.in-None.is)) formed.bundles

pub returns-in-None-clause-rules : goal.returns-in-None-clause-rules
returns-in-None-clause-rules c =
    let s = kept_view c.in_ok-reading.reading.kept in
    rw c.out_of_box.ensures (all_made s.edits s.bundles _ _ c.in_ok-reading.ensures.kept.1 (c.in_ok-reading.ensures.kept.0.whole (ap begun_view c.in-None.is)))
