use Rattle.std.proofs.Common.{◌≡◌, ◌≢◌, [], ◌∷◌, Option, None, refl}
use Rattle.clap.specs.Words.{Kinds, fault_of, matches_of}
use Rattle.spec_input.specs.Words.{Command, app, command_in, where_whole, command_of}
use Rattle.command_words.specs.CommandViews.{texts}
use Rattle.command_words.proofs.reading.read_command.Goals as goal

refused : (kinds : Kinds) (said : Option Command) → kinds ≢ [] → None ≡ where_whole kinds said
refused [] said some = absurd (some refl)
refused (k ∷ ks) said some = refl

pub returns-in-None-clause-value : goal.returns-in-None-clause-value
unfolding command_of
returns-in-None-clause-value c =
    refused (fault_of app (texts c.args.words.now)) (command_in (matches_of app (texts c.args.words.now))) (rw c.in-None.is at c.in_ok-matches.ensures.none)
