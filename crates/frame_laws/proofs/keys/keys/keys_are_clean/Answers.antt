use Rattle.frame_laws.proofs.keys.KeyLaws.{key_of-IsClean, key_of-IsKey}
use Rattle.frame_laws.proofs.keys.keys.keys_are_clean.Goals as goal

pub returns-clause-clean : goal.returns-clause-clean
returns-clause-clean c = key_of-IsClean

pub returns-clause-key : goal.returns-clause-key
returns-clause-key c port frame within bytes = key_of-IsKey frame bytes port within
