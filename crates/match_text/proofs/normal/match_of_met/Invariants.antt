use Rattle.std.proofs.Common.{◌≡◌, drop, filter, fold}
use Rattle.spec_keys.specs.Keys.{none, masked}
use Rattle.spec_flow_text.specs.declared.part.Part.{Part}
use Rattle.spec_flow_text.specs.Values.{is_met}
use Rattle.spec_flow_text.specs.Matches.{with_key_bits, with_mask_bits}
use Rattle.ovs_fields.specs.Packed.{numbers, bits}
use Rattle.match_text.proofs.normal.match_of_met.Given as goal

-- the bits of the parts so far, and then those of the parts to come, are those of all
abbrev pub invariant-parts : goal.invariant-parts
invariant-parts l = record {
  key : fold with_key_bits (numbers l.key) (filter (λ (part : Part). is_met part.needs l.ethernet_type l.protocol) (drop l.part-index l.parts))
      ≡ fold with_key_bits none (filter (λ (part : Part). is_met part.needs l.ethernet_type l.protocol) l.parts);
  mask : fold with_mask_bits (bits l.mask) (filter (λ (part : Part). is_met part.needs l.ethernet_type l.protocol) (drop l.part-index l.parts))
      ≡ fold with_mask_bits none (filter (λ (part : Part). is_met part.needs l.ethernet_type l.protocol) l.parts);
  normalised : masked (numbers l.key) (bits l.mask) ≡ numbers l.key;
}
