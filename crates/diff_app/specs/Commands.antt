-- The words, as the definitions see them.
use Rattle.spec_tools.specs.DiffWords as words
use Rattle.diff_app.specs.declared.words.Command.{Command}

abbrev pub command_view : Command → words.Command
command_view c = record { old = c.old.now; new = c.new.now; ports = c.ports.items; brief = c.brief }
