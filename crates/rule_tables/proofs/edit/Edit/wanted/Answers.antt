use Rattle.std.proofs.Common.{ap, subst, ◌∙◌}
use Rattle.spec_tables.specs.Rules.{Match}
use Rattle.spec_tables.specs.Edits.{Edit}
use Rattle.rule_tables.specs.Included.{IsNormalised}
use Rattle.rule_tables.specs.Signatures.{signature_of, includes}
use Rattle.rule_tables.specs.Signed.{signature_in}
use Rattle.rule_tables.proofs.SignedLaws.{picked_included}
use Rattle.rule_tables.proofs.edit.Edit.wanted.Goals as goal

pub returns : goal.returns
returns c r picked =
    let laws = c.rules_include_their_edits.ensures in
    let is = ap (λ (e : Edit). e.matching) c.self.view_is in
    ap (includes (signature_in r)) (c.of.ensures ∙ ap (λ (m : Match). signature_of m.key m.mask) is)
    ∙ picked_included laws.reached laws.named c.args.self.now r (subst IsNormalised is c.self.inside.matching.normalised) picked
