-- What is kept of a script while it is read.
use Rattle.edit_script.specs.declared.script.Kept.{Kept}
use Rattle.edit_script.specs.ScriptViews.{kept_view}
use Rattle.edit_script.specs.Made.{Keeps, unboxed}

abbrev pub AreKept : Kept → Type 0
AreKept k = Keeps (kept_view k).edits (kept_view k).bundles (unboxed k.rules) k.pending.items
