use Rattle.table_laws.proofs.ProbeLaws.{lookup-sound}
use Rattle.table_laws.proofs.KeyLaws.{agree-masked}
use Rattle.table_laws.proofs.UnionLaws.{SameBits_from-union}
use Rattle.table_laws.proofs.lookups.lookup_is_sound.Goals as goal

pub returns-clause-same_winner : goal.returns-clause-same_winner
returns-clause-same_winner c rules a b h = (lookup-sound rules a b (SameBits_from-union a b _ (agree-masked a b _ h))).same_winner

pub returns-clause-same_bits : goal.returns-clause-same_bits
returns-clause-same_bits c rules a b h = (lookup-sound rules a b (SameBits_from-union a b _ (agree-masked a b _ h))).same_bits
