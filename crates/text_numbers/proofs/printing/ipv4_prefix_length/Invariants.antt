use Rattle.std.proofs.Common.{◌≡◌, ◌≤◌}
use Rattle.spec_flow_text.specs.NumbersPrinted.{prefix_length_up_to, prefix_length_of}
use Rattle.text_numbers.proofs.printing.ipv4_prefix_length.Given as goal

abbrev pub invariant-lengths : goal.invariant-lengths
invariant-lengths l = record {
  within : l.length ≤ 32;
  same : prefix_length_up_to 32 l.mask l.length ≡ prefix_length_of 32 l.mask;
}

abbrev pub decreases-lengths : goal.decreases-lengths
decreases-lengths l = l.length
