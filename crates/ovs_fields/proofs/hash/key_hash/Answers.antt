use Rattle.std.proofs.Common.{◌≡◌, ℕ, List, [], ◌∷◌, ◌∙◌, ap}
use Rattle.spec_base.specs.Bytes.{big_endian}
use Rattle.spec_keys.specs.declared.field_id.FieldId.TheVariants.{InPort}
use Rattle.spec_keys.specs.Fields.{register_fields}
use Rattle.spec_keys.specs.Hash.{offset_basis, hash_bytes, field_bytes, key_hash}
use Rattle.spec_keys.specs.Keys.{value_of}
use Rattle.ovs_fields.specs.Packed.{numbers}
use Rattle.ovs_fields.specs.Runs.{ethernet, ipv4_addresses, ipv6_addresses, ip_header, arp_addresses, ports, tags}
use Rattle.ovs_fields.proofs.HashLaws.{then_fields}
use Rattle.ovs_fields.proofs.hash.key_hash.Goals as goal

in_port_alone : (hash : ℕ) (key : List ℕ) → hash ≡ hash_bytes offset_basis (big_endian 2 (value_of key InPort)) → hash ≡ hash_bytes offset_basis (field_bytes (InPort ∷ []) key)
unfolding field_bytes
in_port_alone hash key is_hash = is_hash

pub returns : goal.returns
unfolding key_hash
returns c =
    let key = numbers c.args.key.now in
    let e0 = in_port_alone _ key (c.hash_bytes-hash.ensures ∙ ap (hash_bytes offset_basis) c.to_be_bytes.ensures) in
    let e1 = then_fields _ _ register_fields key e0 c.hash_registers-hash.ensures in
    let e2 = then_fields _ _ ethernet key e1 c.hash_ethernet-hash.ensures in
    let e3 = then_fields _ _ ipv4_addresses key e2 c.hash_ipv4_addresses-hash.ensures in
    let e4 = then_fields _ _ ipv6_addresses key e3 c.hash_ipv6_addresses-hash.ensures in
    let e5 = then_fields _ _ ip_header key e4 c.hash_ip_header-hash.ensures in
    let e6 = then_fields _ _ arp_addresses key e5 c.hash_arp_addresses-hash.ensures in
    let e7 = then_fields _ _ ports key e6 c.hash_ports-hash.ensures in
    then_fields _ _ tags key e7 c.hash_tags.ensures
