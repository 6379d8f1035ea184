use Rattle.std.proofs.Common.{sym, ◌∙◌}
use Rattle.rule_tables.proofs.SignedLaws.{lacking_idle}
use Rattle.rule_tables.proofs.stored.StoredRule.is_found.Goals as goal

pub returns-else-includes : goal.returns-else-includes
returns-else-includes c signed wanted =
    c.if-includes.false ∙ sym (lacking_idle c.args.edit.now c.args.self.now c.args.signature.now c.args.wanted.now signed (sym c.includes.ensures ∙ c.if-includes.false) wanted)
