-- Names of fields, and slices, that are the same.
use Rattle.std.proofs.Common.{◌≡◌, true, ◌&&◌, ◌==◌, eqb-true}
use denote.Enum.Bare.{sameb, same_true}
use Rattle.std.proofs.lemmas.Bool.{and_parts}
use Rattle.spec_actions.specs.declared.named_field.NamedField.{NamedField}
use Rattle.spec_actions.specs.contracts.named_field.NamedField.{the_type}
use Rattle.spec_actions.specs.declared.action.Slice.{Slice}

pub same_name : (a b : NamedField) → sameb the_type a b ≡ true → a ≡ b
same_name a b h = same_true the_type tt a b h

pub same_slice : (a b : Slice) → (sameb the_type a.name b.name && ((a.low == b.low) && (a.high == b.high))) ≡ true → a ≡ b
same_slice a b h =
    let parts = and_parts (sameb the_type a.name b.name) ((a.low == b.low) && (a.high == b.high)) h in
    let numbers = and_parts (a.low == b.low) (a.high == b.high) parts.1 in
    let name = same_name a.name b.name parts.0 in
    let low = eqb-true a.low b.low numbers.0 in
    let high = eqb-true a.high b.high numbers.1 in
    λ i. record { name = name i; low = low i; high = high i }
