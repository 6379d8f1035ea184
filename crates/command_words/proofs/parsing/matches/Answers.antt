use Rattle.std.proofs.Common.{refl, subst}
use Rattle.clap.specs.Words.{App, HasMatchesOf}
use Rattle.spec_input.specs.Words.{app}
use Rattle.command_words.specs.CommandViews.{texts}
use Rattle.command_words.proofs.parsing.matches.Goals as goal

pub returns-in-Ok-clause-some : goal.returns-in-Ok-clause-some
returns-in-Ok-clause-some c =
    let of_app : HasMatchesOf app (texts c.args.words.now) c.in-Ok.found = subst (λ (a : App). HasMatchesOf a (texts c.args.words.now) c.in-Ok.found) c.in_ok-command.ensures c.in-Ok.ensures.matches in
    (of_app refl).0
