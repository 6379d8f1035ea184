use Rattle.std.proofs.Common.{sym, ◌∙◌, arith}
use Rattle.spec_flow_text.specs.Items.{is_white}
use Rattle.edit_script.proofs.Fronts.{cut_front, cut_empty}
use Rattle.edit_script.proofs.line_words.few_bytes.Goals as goal

pub returns-clause-front : goal.returns-clause-front
returns-clause-front c =
    rw c.split_at.ensures.front (cut_front is_white c.args.text.now (omega arith) (sym c.is_white.ensures ∙ c.if-is_white.false))

pub returns-clause-empty : goal.returns-clause-empty
returns-clause-empty c =
    rw c.split_at.ensures.front (cut_empty is_white c.args.text.now (omega arith) (sym c.is_white.ensures ∙ c.if-is_white.false))
