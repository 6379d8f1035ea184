use Rattle.masked_map.proofs.WordLaws.{words_tell}
use Rattle.masked_map.proofs.key_words.KeyWords.are_same.Goals as goal

pub returns : goal.returns
returns c a b of_a of_b are are_other = words_tell a b of_a of_b c.args.self.now c.args.other.now are are_other
