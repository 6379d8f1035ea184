-- How wide fields are, and numbers of leading bits.
use Rattle.std.proofs.Common.{ℕ, ◌≤◌, ◌<◌, ◌-◌, ◌^◌, arith}
use Rattle.std.proofs.lemmas.Nat.{pow_pos}
use Rattle.spec_base.specs.Bits.{leading_bits}
use Rattle.spec_keys.specs.declared.field_id.FieldId.{FieldId}
use Rattle.spec_keys.specs.declared.field_id.FieldId.TheVariants.{InPort}
use Rattle.spec_keys.specs.Fields.{width_of}

pub width_within : (f : FieldId) → width_of f ≤ 128
width_within InPort = omega arith
width_within _ = omega arith

pub width_some : (f : FieldId) → 0 < width_of f
width_some InPort = omega arith
width_some _ = omega arith

pub leading_within : (width n : ℕ) → leading_bits width n < 2 ^ width
leading_within width n = omega (arith, pow_pos width, pow_pos (width - n))
