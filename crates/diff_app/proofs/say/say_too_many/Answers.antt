use Rattle.std.proofs.Common.{ℕ, List, ◌++◌, subst}
use Rattle.std.specs.Prelude.{codes}
use Rattle.spec_run.specs.Statuses.{Prints}
use Rattle.diff_app.proofs.say.say_too_many.Goals as goal

pub returns : goal.returns
returns g c = λ t.
    subst (λ (z : List ℕ). Prints g.K.Sink.needs_memory (g.K.Sink.faults c.args.say.now) (g.K.Sink.faults c.say_pieces.new.say)
    (g.K.Sink.written c.args.say.now) (g.K.Sink.written c.say_pieces.new.say) (codes "limit: cubes " ++ (z ++ codes "\n")))
    c.format.ensures.text (c.say_pieces.ensures.text t)
