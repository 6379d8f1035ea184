-- What every script is, line by line.
use Rattle.std.specs.Prelude.{◌≡◌, ◌≤◌, length, IsTrue, None}
use Rattle.std.specs.List.{list_all}
use Rattle.spec_case.specs.Blocks.{AreInOrder}
use Rattle.spec_input.specs.Script.{Reading, most_edits, most_syncs}
use Rattle.spec_tables.specs.Bundles.{edits_through, AreBundles}
use Rattle.spec_tables.specs.Edits.{has_sound_actions}

-- The actions are sound, edits and sync points are within their limits, and the counts of bundles before sync points never
-- fall. Each bundle has an edit, and while none is begun they have all edits.
pub record IsWellFormed (r : Reading) : Type 0 where
  pub sound : IsTrue (list_all has_sound_actions r.said.edits)
  pub edit_count : length r.said.edits ≤ most_edits
  pub sync_count : length r.said.syncs ≤ most_syncs
  pub in_order : AreInOrder r.said.syncs (length r.said.bundles)
  pub bundles : AreBundles r.said.bundles (edits_through r.said.bundles (length r.said.bundles))
  pub through : edits_through r.said.bundles (length r.said.bundles) ≤ length r.said.edits
  pub whole : r.begun ≡ None → edits_through r.said.bundles (length r.said.bundles) ≡ length r.said.edits
