use Rattle.action_text.proofs.Translations.{translation_within}
use Rattle.action_text.proofs.dp_laws.translation_is_within_fields.Goals as goal

pub returns : goal.returns
returns c sw key is_key = record { within = translation_within sw key is_key }
