use Rattle.command_words.specs.CommandViews.{texts}
use Rattle.switch_app.proofs.Ending.{refused_ends, accepted_ends, usage_ends, taken_ends}
use Rattle.switch_app.proofs.run.run_switch.Goals as goal

pub returns-clause-refusal : goal.returns-clause-refusal
returns-clause-refusal g c = λ t.
    refused_ends g.S.Shelf g.K.Sink (texts c.args.words.now) c.args.shelf.now c.end.new.shelf c.args.say.now c.end.new.say c.end.result t c.end.ensures.ends

pub returns-clause-accepted : goal.returns-clause-accepted
returns-clause-accepted g c = λ t.
    accepted_ends g.S.Shelf g.K.Sink (texts c.args.words.now) c.args.shelf.now c.end.new.shelf c.args.say.now c.end.new.say c.end.result t c.end.ensures.ends

pub returns-clause-usage : goal.returns-clause-usage
returns-clause-usage g c =
    usage_ends g.S.Shelf g.K.Sink (texts c.args.words.now) c.args.shelf.now c.end.new.shelf c.args.say.now c.end.new.say c.end.result c.end.ensures.ends

pub returns-clause-taken : goal.returns-clause-taken
returns-clause-taken g c =
    taken_ends g.S.Shelf g.K.Sink (texts c.args.words.now) c.args.shelf.now c.end.new.shelf c.args.say.now c.end.new.say c.end.result c.end.ensures.ends
