use Rattle.edit_script.specs.ScriptViews.{reading_view}
use Rattle.edit_script.proofs.WellFormed.{formed_with_begin}
use Rattle.edit_script.proofs.script.with_begin.Goals as goal

pub returns-clause-formed : goal.returns-clause-formed
returns-clause-formed c = formed_with_begin (reading_view c.args.reading) _ c.requires.formed
