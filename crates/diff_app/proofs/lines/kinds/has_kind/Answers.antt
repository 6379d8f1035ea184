use Rattle.std.proofs.Common.{sym, ◌∙◌}
use Rattle.spec_tools.specs.DiffTexts.{is_same_kind}
use Rattle.diff_app.specs.Pieces.{kind_view}
use Rattle.diff_app.proofs.lines.KindLaws.{any_in}
use Rattle.diff_app.proofs.lines.kinds.has_kind.Goals as goal

pub returns : goal.returns
returns c = c.any_has_kind.ensures ∙ sym (any_in (is_same_kind (kind_view c.args.class.now)) c.args.others.now)
