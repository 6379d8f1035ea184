use Rattle.std.proofs.Common.{refl, sym, ◌∙◌}
use Rattle.rule_tables.specs.Views.{match_view}
use Rattle.match_text.specs.Parts.{network}
use Rattle.match_text.proofs.Unstated.{none_shown}
use Rattle.match_text.proofs.parts.network_is_unstated.Goals as goal

pub returns : goal.returns
returns c all s = none_shown (match_view c.args.m.now) s network refl (sym c.network_has_no_bit.ensures ∙ all)
