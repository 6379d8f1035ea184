use Rattle.std.proofs.Common.{Some, None, sym, ◌∙◌}
use Rattle.field_text.specs.WordViews.{word_view}
use Rattle.edit_script.proofs.Fronts.{edit_in_front}
use Rattle.edit_script.proofs.edit_line.read_edit_behind.Goals as goal

pub returns-in-None-clause-value : goal.returns-in-None-clause-value
returns-in-None-clause-value c =
    rw (edit_in_front (word_view c.args.front) c.args.line.now None c.requires.front (sym c.in-None.is ∙ c.edit_word.ensures)) c.edit_from.ensures.value

pub returns-in-Some-clause-value : goal.returns-in-Some-clause-value
returns-in-Some-clause-value c =
    rw (edit_in_front (word_view c.args.front) c.args.line.now (Some c.in-Some.word) c.requires.front (sym c.in-Some.is ∙ c.edit_word.ensures))
    c.edit_from-in-Some.ensures.value
