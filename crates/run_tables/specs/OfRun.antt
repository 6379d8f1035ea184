-- What the tables of a run keep.
use Rattle.std.specs.Prelude.{◌≡◌, ◌≤◌, IsTrue}
use Rattle.std.specs.List.{list_all}
use Rattle.spec_case.specs.Run.{Run, edit_count, last_version}
use Rattle.spec_tables.specs.Bundles.{AreBundles}
use Rattle.spec_tables.specs.Edits.{has_sound_actions}
use Rattle.rule_tables.specs.History.{history_of}
use Rattle.tuple_classifier.specs.Versions.{Version, version_in}

-- The rules are those that the bundles of a run make up to a version of it, and the actions of its edits are sound.
pub record AreOfRun (run : Run) (rules : Version) : Type 0 where
  pub sound : IsTrue (list_all has_sound_actions run.edits)
  pub whole : AreBundles run.bundles (edit_count run)
  pub made : rules ≡ version_in (history_of run.edits run.bundles) rules.number
  pub within : rules.number ≤ last_version run
