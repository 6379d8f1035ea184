-- The rules of each version of a history that edits of sound actions made can be run.
use Rattle.std.proofs.Common.{◌≤◌, List, ℕ, length, IsTrue, sym, subst}
use Rattle.std.specs.List.{list_all}
use Rattle.spec_tables.specs.Edits.{Edit, has_sound_actions}
use Rattle.spec_tables.specs.Bundles.{edits_through}
use Rattle.rule_tables.specs.History.{rules_of, history_of}
use Rattle.rule_tables.proofs.Histories.{rules_of-history}
use Rattle.pipe_model.specs.Runnable.{AreRunnable}
use Rattle.pipe_model.proofs.Versions.{runnable-version}

pub runnable-history : (edits : List Edit) (bundles : List ℕ) (v : ℕ) → edits_through bundles v ≤ length edits → IsTrue (list_all has_sound_actions edits)
    → AreRunnable (rules_of (history_of edits bundles) v)
runnable-history edits bundles v made all = subst AreRunnable (sym (rules_of-history edits bundles v made)) (runnable-version edits bundles v all)
