use Rattle.std.proofs.Common.{◌≡◌, ℕ, List, ◌++◌, take, sym, ◌∙◌, subst}
use Rattle.std.specs.Prelude.{OnOk, OnErr}
use Rattle.std.proofs.lemmas.List.{append-nil}
use Rattle.std.proofs.lemmas.Result.{err_from_is_err_and}
use Rattle.trace_app.proofs.run.trace_and_print.Goals as goal

pub returns-in_err-text-clause-err : goal.returns-in_err-text-clause-err
returns-in_err-text-clause-err g c = λ t.
    let p = err_from_is_err_and c.from_residual.result c.from_residual.ensures.1 in
    rw (p.1) (0, sym (append-nil (g.K.Sink.written c.args.say.now)))

pub returns-clause-ok : goal.returns-clause-ok
returns-clause-ok g c = λ t.
    subst (λ (z : List ℕ). OnOk c.say_all.result (g.K.Sink.written c.say_all.new.say ≡ g.K.Sink.written c.args.say.now ++ z))
    (c.as_bytes.ensures.value ∙ c.in_ok-text.ensures) (c.say_all.ensures.ok t)

pub returns-clause-err : goal.returns-clause-err
returns-clause-err g c = λ t.
    subst (λ (z : List ℕ). OnErr c.say_all.result ((n : ℕ) × (g.K.Sink.written c.say_all.new.say ≡ g.K.Sink.written c.args.say.now ++ take n z)))
    (c.as_bytes.ensures.value ∙ c.in_ok-text.ensures) (c.say_all.ensures.err t)
