use Rattle.std.proofs.Common.{◌≡◌, ℕ, List, ◌++◌, take, subst}
use Rattle.std.specs.Prelude.{OnOk, OnErr}
use Rattle.diff_app.proofs.run.print.Goals as goal

pub returns-clause-ok : goal.returns-clause-ok
returns-clause-ok g c = λ t.
    subst (λ (z : List ℕ). OnOk c.say_all.result (g.K.Sink.written c.say_all.new.say ≡ g.K.Sink.written c.args.say.now ++ z))
    c.as_bytes.ensures.value (c.say_all.ensures.ok t)

pub returns-clause-err : goal.returns-clause-err
returns-clause-err g c = λ t.
    subst (λ (z : List ℕ). OnErr c.say_all.result ((n : ℕ) × (g.K.Sink.written c.say_all.new.say ≡ g.K.Sink.written c.args.say.now ++ take n z)))
    c.as_bytes.ensures.value (c.say_all.ensures.err t)
