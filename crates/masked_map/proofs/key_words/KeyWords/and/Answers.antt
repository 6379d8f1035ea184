use Rattle.std.proofs.Common.{ap₂, bit_and, ◌∙◌}
use Rattle.spec_keys.specs.declared.field_id.FieldId.TheVariants.{DlSrc, DlDst}
use Rattle.masked_map.proofs.WordLaws.{masked_value, masked_header, masked_addresses, masked_ports}
use Rattle.masked_map.proofs.key_words.KeyWords.and.Goals as goal

pub returns : goal.returns
returns c key mask is_key is_mask of_key of_mask = record {
  src = ap₂ bit_and of_key.src of_mask.src ∙ masked_value key mask DlSrc;
  dst = ap₂ bit_and of_key.dst of_mask.dst ∙ masked_value key mask DlDst;
  header_is = ap₂ bit_and of_key.header_is of_mask.header_is ∙ masked_header key mask is_key is_mask;
  addresses_are = ap₂ bit_and of_key.addresses_are of_mask.addresses_are ∙ masked_addresses key mask is_key is_mask;
  ports_are = ap₂ bit_and of_key.ports_are of_mask.ports_are ∙ masked_ports key mask is_key is_mask;
}
