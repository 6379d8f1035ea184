-- Rules that won lookups.
use Rattle.std.specs.Prelude.{List, IsTrue, IfSome}
use Rattle.spec_tables.specs.Rules.{Rule}
use Rattle.spec_tables.specs.Live.{is_live}
use Rattle.spec_tools.specs.declared.lookup.Lookup.{Lookup}

-- The rule that won a lookup, if one did, is among these rules.
abbrev pub HasLiveWinner : List Rule → Lookup → Type 0
HasLiveWinner rules l = IfSome l.rule (λ number. IsTrue (is_live number rules))
