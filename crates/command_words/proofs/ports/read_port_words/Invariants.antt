use Rattle.std.proofs.Common.{◌≡◌, [], length, drop}
use Rattle.spec_input.specs.Words.{port_words}
use Rattle.command_words.specs.PortViews.{lent, ports_view}
use Rattle.command_words.proofs.ports.read_port_words.Given as goal

abbrev pub invariant-words : goal.invariant-words
invariant-words l =
    (port_words (ports_view l.ports.items) (lent (drop l.word-index l.words)) ≡ port_words [] (lent l.words)) × (length l.ports.items ≡ l.word-index)
