use Rattle.std.proofs.Common.{◌≡◌, length, sym, subst, arith}
use Rattle.rule_tables.specs.History.{History, newest, rules_of, history_of}
use Rattle.pipe_model.specs.Runnable.{AreRunnable}
use Rattle.xlate_pipeline.proofs.RunnableVersions.{runnable-history}
use Rattle.edit_script.specs.ScriptViews.{read_view}
use Rattle.tool_layers.proofs.files.read_rules.Goals as goal

pub returns : goal.returns
returns c =
    let s = read_view c.in-Ok.read in
    let made : c.in-Some.rules ≡ history_of s.edits s.bundles = (rw c.in-Some.is at c.in-Ok.ensures.rules).0 in
    subst (λ (h : History). AreRunnable (rules_of h (newest h))) (sym made)
    (runnable-history s.edits s.bundles (length s.bundles) (omega (arith, c.in-Ok.ensures.bundles.whole)) c.in-Ok.ensures.sound)
