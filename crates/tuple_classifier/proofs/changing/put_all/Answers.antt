use Rattle.tuple_classifier.proofs.changing.put_all.Goals as goal

pub returns-in-Err-clause-err : goal.returns-in-Err-clause-err
returns-in-Err-clause-err c = λ rules can have. c.take_back.ensures rules can (c.in-Err.ensures.err _ (c.came.invariant.come rules can have))
