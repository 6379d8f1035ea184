use Rattle.std.proofs.Common.{refl}
use Rattle.masked_map.proofs.key_words.KeyWords.of.Goals as goal

pub returns-clause-words : goal.returns-clause-words
returns-clause-words c = record { src = refl; dst = refl; header_is = c.header_of.ensures.value; addresses_are = c.addresses_of.ensures.value; ports_are = c.ports_of.ensures.value }

pub returns-clause-fits : goal.returns-clause-fits
returns-clause-fits c = record { header = c.header_of.ensures.fits; addresses = c.addresses_of.ensures.fits; ports = c.ports_of.ensures.fits }
