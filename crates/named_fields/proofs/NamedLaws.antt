-- What a name stands for is within its field.
use Rattle.std.proofs.Common.{◌+◌, ◌≤◌, ◌<◌, ◌^◌, lit<, lit≤, arith}
use Rattle.spec_keys.specs.declared.field_id.FieldId.{FieldId}
use Rattle.spec_keys.specs.declared.field_id.FieldId.TheVariants as field
use Rattle.spec_keys.specs.Fields.{width_of}
use Rattle.spec_actions.specs.declared.named_field.NamedField.{NamedField}
use Rattle.spec_actions.specs.declared.named_field.NamedField.TheVariants as name
use Rattle.spec_actions.specs.Named.{named}

pub named-within : (n : NamedField) → (named n).low + (named n).bits ≤ width_of (named n).field
named-within name.InPort = lit≤ tt
named-within _ = lit≤ tt

pub writable-within : (n : NamedField) → (named n).writable < 2 ^ (named n).bits
writable-within name.InPort = lit< tt
writable-within _ = lit< tt

pub width-most : (f : FieldId) → width_of f ≤ 128
width-most field.InPort = lit≤ tt
width-most _ = lit≤ tt

-- so its bits are among 128
pub named-most : (n : NamedField) → (named n).low + (named n).bits ≤ 128
named-most n = omega (arith, named-within n, width-most (named n).field)
