use Rattle.table_laws.proofs.SoundLaws.{consulted-sound}
use Rattle.table_laws.proofs.translations.consulted_is_sound.Goals as goal

pub returns-clause-same_translation : goal.returns-clause-same_translation
returns-clause-same_translation c sw a b ka kb ca cb h = (consulted-sound sw a b ka kb ca cb h).same_translation

pub returns-clause-same_bits : goal.returns-clause-same_bits
returns-clause-same_bits c sw a b ka kb ca cb h = (consulted-sound sw a b ka kb ca cb h).same_bits
