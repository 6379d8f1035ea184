use Rattle.std.proofs.Common.{◌≡◌, ◌≤◌}
use Rattle.spec_xlate.specs.Lookup.{length_up_to}
use Rattle.address_prefixes.proofs.prefix.prefix_length.Given as goal

abbrev pub invariant-loop-n : goal.invariant-loop-n
invariant-loop-n l = record { is : l.length ≡ length_up_to l.width l.bits l.n; within : l.length ≤ l.n }
