-- The edits of a script, which clauses alone see.
use Rattle.std.proofs.Common.{◌≡◌, length}
use Rattle.std.proofs.lemmas.List.{length-map}
use Rattle.edit_script.specs.declared.script.Script.{Script}
use Rattle.edit_script.specs.ScriptViews.{script_view}

-- there are as many as are listed
pub length_told : (s : Script) → length (script_view s).edits ≡ length s.edits.items
length_told s = length-map s.edits.items (λ e. e.value)
