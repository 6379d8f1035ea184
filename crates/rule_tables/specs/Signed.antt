-- The signatures of rules.
use Rattle.ovs_fields.specs.Packed.{numbers, bits}
use Rattle.rule_tables.specs.declared.signatures.signature.Signature.{Signature}
use Rattle.rule_tables.specs.Signatures.{signature_of}
use Rattle.rule_tables.specs.declared.rule.Rule.{Rule}

-- the signature of a rule's match
abbrev pub signature_in : Rule → Signature
signature_in r = signature_of (numbers r.matching.key) (bits r.matching.mask)
