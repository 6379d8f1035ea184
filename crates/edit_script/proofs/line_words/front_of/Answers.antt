use Rattle.std.proofs.Common.{sym, ap, subst, ◌∙◌}
use Rattle.spec_flow_text.specs.Items.{is_white}
use Rattle.spec_flow_text.specs.Lines.{first_word}
use Rattle.spec_flow_text.specs.Matches.{uncommented}
use Rattle.edit_script.specs.Fronts.{IsFront, is_empty}
use Rattle.edit_script.proofs.FirstWords.{blank_word}
use Rattle.edit_script.proofs.line_words.front_of.Goals as goal

pub returns-clause-blank : goal.returns-clause-blank
returns-clause-blank c =
    blank_word is_white (uncommented c.args.line.now) ∙ ap (λ text. is_empty (first_word text)) (sym c.uncommented.ensures)
    ∙ sym c.few_bytes.ensures.empty ∙ ap is_empty (sym c.first_word.ensures.word)

pub returns-clause-front : goal.returns-clause-front
returns-clause-front c =
    subst (λ w. IsFront w (first_word (uncommented c.args.line.now))) (sym c.first_word.ensures.word)
    (subst (λ text. IsFront (first_word c.few_bytes.result.now) (first_word text)) c.uncommented.ensures c.few_bytes.ensures.front)
