use Rattle.text_laws.proofs.values.CharacterLaws.{mac_characters, ipv4_characters, ipv6_characters}
use Rattle.text_laws.proofs.values.characters.addresses_have_value_characters.Goals as goal

pub returns-clause-mac : goal.returns-clause-mac
returns-clause-mac c = mac_characters

pub returns-clause-ipv4 : goal.returns-clause-ipv4
returns-clause-ipv4 c = ipv4_characters

pub returns-clause-ipv6 : goal.returns-clause-ipv6
returns-clause-ipv6 c = ipv6_characters
