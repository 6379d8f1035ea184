use Rattle.std.proofs.Common.{◌≡◌, [], drop}
use Rattle.command_words.specs.CommandViews.{texts}
use Rattle.spec_tools.specs.DiffWords.{ports_with}
use Rattle.diff_app.proofs.words.read_ports.Given as goal

-- what is left of the words leads where all of them lead
abbrev pub invariant-words : goal.invariant-words
invariant-words l = ports_with l.ports.items (texts (drop l.word-index l.words)) ≡ ports_with [] (texts l.words)
