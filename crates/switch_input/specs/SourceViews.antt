-- What is read for a command, as the definitions see it.
use Rattle.spec_run.specs.Verdict as verdicts
use Rattle.command_words.specs.PortViews.{ports_view}
use Rattle.command_words.specs.CommandViews.{text_view}
use Rattle.switch_input.specs.declared.sources.Sources.{Sources}

abbrev pub sources_view : Sources → verdicts.Sources
sources_view s = record { edits = s.edits.now; steps = text_view s.steps; mirrors = text_view s.mirrors; ports = ports_view s.ports.now }
