use Rattle.switch_app.proofs.run.decide_and_tell.Goals as goal

pub returns-clause-err : goal.returns-clause-err
returns-clause-err g c = c.decide_and_put.ensures.err
