use Rattle.std.proofs.Common.{refl, sym, ◌∙◌}
use Rattle.rule_tables.specs.Views.{match_view}
use Rattle.match_text.specs.Parts.{registers}
use Rattle.match_text.proofs.Unstated.{none_shown}
use Rattle.match_text.proofs.parts.registers_are_unstated.Goals as goal

pub returns : goal.returns
returns c all s = none_shown (match_view c.args.m.now) s registers refl (sym c.registers_have_no_bit.ensures ∙ all)
