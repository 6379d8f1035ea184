use Rattle.std.proofs.Common.{◌≡◌, drop}
use Rattle.spec_xlate.specs.Consulted.{without}
use Rattle.ovs_fields.specs.Packed.{numbers}
use Rattle.trace_app.proofs.flow.clear.Given as goal

-- what is left of the fields leads where all of them lead
abbrev pub invariant-fields : goal.invariant-fields
invariant-fields l = without (drop l.field-index l.fields) (numbers l.key) ≡ without l.fields (numbers l.fn.key)
