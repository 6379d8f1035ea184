-- What is written in the form of a named field is within its bits.
use Rattle.std.proofs.Common.{◌≤◌, ◌^◌, lit≤}
use Rattle.spec_actions.specs.declared.named_field.NamedField.{NamedField}
use Rattle.spec_actions.specs.declared.named_field.NamedField.TheVariants as name
use Rattle.spec_actions.specs.Named.{named}
use Rattle.spec_flow_text.specs.Values.{form_of, most_of}
use Rattle.field_text.specs.Views.{limit}

pub limit-within : (f : NamedField) → limit (form_of f) (most_of f) ≤ 2 ^ (named f).bits
limit-within name.InPort = lit≤ tt
limit-within _ = lit≤ tt
