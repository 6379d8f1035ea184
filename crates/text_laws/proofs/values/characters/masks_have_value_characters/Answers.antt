use Rattle.text_laws.proofs.values.CharacterLaws.{ipv4_mask_characters, ipv6_mask_characters}
use Rattle.text_laws.proofs.values.characters.masks_have_value_characters.Goals as goal

pub returns-clause-ipv4 : goal.returns-clause-ipv4
returns-clause-ipv4 c = ipv4_mask_characters

pub returns-clause-ipv6 : goal.returns-clause-ipv6
returns-clause-ipv6 c = ipv6_mask_characters
