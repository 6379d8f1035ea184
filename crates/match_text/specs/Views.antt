-- The code's values as the definitions see them.
use Rattle.rule_tables.specs.Views.{match_view}
use Rattle.spec_flow_text.specs.Items as items
use Rattle.spec_flow_text.specs.Matches as matches
use Rattle.match_text.specs.declared.flows.Flow.{Flow}
use Rattle.match_text.specs.declared.sofar.Sofar.{Sofar}
use Rattle.match_text.specs.declared.items.Stated.{Stated}
use Rattle.match_text.specs.declared.reading.MatchText.{MatchText}

abbrev pub sofar_view : Sofar → items.Sofar
sofar_view s = record { parts = s.parts.items; table = s.table; priority = s.priority; cookie = s.cookie }

abbrev pub stated_view : Stated → items.Stated
stated_view s = record { sofar = sofar_view s.sofar; list = s.list }

abbrev pub match_text_view : MatchText → matches.MatchText
match_text_view m = record { table = m.table; priority = m.priority; cookie = m.cookie; matching = match_view m.matching; rest = m.rest }

abbrev pub flow_view : Flow → matches.MatchText
flow_view f = record { table = f.table; priority = f.priority; cookie = f.cookie; matching = matches.match_of (matches.kept f.parts.items); rest = f.rest }
