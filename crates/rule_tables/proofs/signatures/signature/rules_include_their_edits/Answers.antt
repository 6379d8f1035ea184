use Rattle.rule_tables.proofs.signatures.SignatureLaws.{reached_included, named_included}
use Rattle.rule_tables.proofs.signatures.signature.rules_include_their_edits.Goals as goal

pub returns-clause-reached : goal.returns-clause-reached
returns-clause-reached c = λ e r normal less reached. reached_included e r normal less reached

pub returns-clause-named : goal.returns-clause-named
returns-clause-named c = λ e r named. named_included e r named
