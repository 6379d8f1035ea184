-- What was read of a file of edits, as the definitions see it.
use Rattle.std.specs.Prelude.{map}
use Rattle.spec_input.specs.Script as scripts
use Rattle.edit_script.specs.declared.script.Kept.{Kept}
use Rattle.edit_script.specs.declared.script.ReadEdits.{ReadEdits}
use Rattle.edit_script.specs.declared.script.Reading.{Reading}
use Rattle.edit_script.specs.declared.script.Script.{Script}
use Rattle.edit_script.specs.Begun.{begun_view}

abbrev pub script_view : Script → scripts.Script
script_view s = record { edits = map (λ e. e.value) s.edits.items; bundles = s.bundles.items; syncs = s.syncs.items }

abbrev pub kept_view : Kept → scripts.Script
kept_view k = script_view k.said

abbrev pub reading_view : Reading → scripts.Reading
reading_view r = record { said = kept_view r.kept; begun = begun_view r.begun }

abbrev pub read_view : ReadEdits → scripts.Script
read_view r = script_view r.script
