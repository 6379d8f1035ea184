use Rattle.std.proofs.Common.{◌∙◌}
use Rattle.edit_script.proofs.line_words.begins_with.Goals as goal

pub returns : goal.returns
returns c = c.is_word.ensures ∙ c.requires.front.same c.args.word.now c.requires.short
