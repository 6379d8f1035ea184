-- The lookups that are noted of a translation.
use Rattle.std.specs.Prelude.{nat_lt, if◌then◌else◌, List, [], ◌∷◌, ◌++◌, length}
use Rattle.spec_tables.specs.Rules.{winner}
use Rattle.spec_xlate.specs.Translation.{lookup_limit}
use Rattle.pipe_model.specs.Events.{Event}
use Rattle.pipe_model.specs.Events.Event.{Looked, Acted}
use Rattle.spec_tools.specs.declared.lookup.Lookup.{Lookup}
use Rattle.spec_tools.specs.Paths.{looked_up}
use Rattle.ofp_trace.specs.declared.path.Path.{Path}

abbrev pub lookups_in : Path → List Lookup
lookups_in p = p.lookups.items

-- lookups and one more, up to the limit
abbrev pub with_lookup : List Lookup → Lookup → List Lookup
with_lookup before l = if nat_lt (length before) lookup_limit then before ++ l ∷ [] else before

-- lookups and that of an event, if it is one
abbrev pub with_event : List Lookup → Event → List Lookup
with_event before (Looked depth table rules key) = with_lookup before (looked_up depth table (winner rules key))
with_event before (Acted action key) = before
