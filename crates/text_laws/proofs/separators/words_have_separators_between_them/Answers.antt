use Rattle.text_laws.proofs.Ends.{words-doubled, words-ended}
use Rattle.text_laws.proofs.separators.words_have_separators_between_them.Goals as goal

pub returns-clause-between : goal.returns-clause-between
returns-clause-between c separates front back s t is also fresh at = words-doubled separates fresh at front back s t is also

pub returns-clause-at_the_end : goal.returns-clause-at_the_end
returns-clause-at_the_end c separates fresh at text s is = words-ended separates fresh at text s is
