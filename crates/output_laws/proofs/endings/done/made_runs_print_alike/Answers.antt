use Rattle.output_laws.proofs.endings.Sums.{made}
use Rattle.output_laws.proofs.endings.done.made_runs_print_alike.Goals as goal

pub returns : goal.returns
returns g c words old new said saying command number ends k e is = made g.S.Shelf g.K.Sink words old new said saying ends k command number e is
