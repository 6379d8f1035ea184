use Rattle.command_words.specs.CommandViews.{texts}
use Rattle.switch_app.proofs.Ending.{ended}
use Rattle.switch_app.proofs.run.end.Goals as goal

pub returns-in-Err-clause-ends : goal.returns-in-Err-clause-ends
returns-in-Err-clause-ends g c =
    rw c.status_of.ensures (ended g.S.Shelf g.K.Sink (texts c.args.words.now) c.args.shelf.now c.run.new.shelf c.args.say.now c.run.new.say c.say_refusal.new.say c.in-Err.refusal
    c.in-Err.ensures.err c.say_refusal.ensures.text c.say_refusal.ensures.once c.say_refusal.ensures.silent)
