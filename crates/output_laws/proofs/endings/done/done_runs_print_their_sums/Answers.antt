use Rattle.output_laws.proofs.endings.Sums.{sums, plainly}
use Rattle.output_laws.proofs.endings.done.done_runs_print_their_sums.Goals as goal

pub returns-clause-sums : goal.returns-clause-sums
returns-clause-sums g c words old new said saying a ends t k e = sums g.S.Shelf g.K.Sink words old new said saying ends k a t e

pub returns-clause-edits_apart : goal.returns-clause-edits_apart
returns-clause-edits_apart g c words old new said saying a ends t k e apart = plainly g.S.Shelf g.K.Sink words old new said saying ends k a t e apart
