use Rattle.command_words.specs.CommandViews.{texts}
use Rattle.diff_app.proofs.Ending.{ended}
use Rattle.diff_app.proofs.run.end.Goals as goal

pub returns-in-Err : goal.returns-in-Err
returns-in-Err g c =
    rw c.status_of.ensures (ended g.S.Shelf g.K.Sink (texts c.args.words.now) c.args.shelf.now c.run.new.shelf c.args.say.now c.run.new.say c.say_refusal.new.say c.in-Err.refusal
    c.in-Err.ensures.err c.say_refusal.ensures.text c.say_refusal.ensures.silent)
