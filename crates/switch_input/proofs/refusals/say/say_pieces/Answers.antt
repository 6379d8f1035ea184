use Rattle.std.proofs.Common.{length, ◌++◌, inl, sym, ap, subst, ◌∙◌, arith}
use Rattle.std.proofs.lemmas.List.{take_all}
use Rattle.switch_input.specs.Pieces.{joined, FailsAtMostOnce}
use Rattle.switch_input.proofs.refusals.Pieces.{start_printed, fails_at_most_once}
use Rattle.switch_input.proofs.refusals.say.say_pieces.Goals as goal

pub returns-in-Err-clause-text : goal.returns-in-Err-clause-text
returns-in-Err-clause-text g c = λ t. record {
  prefix = start_printed c.args.pieces.now c.pieces.piece-index _ _ c.pieces-test.true c.as_bytes.ensures.value (g.K.Sink.written c.args.say.now) (g.K.Sink.written c.pieces.say) _ (c.pieces.invariant.written t) (c.in-Err.ensures.err t);
  whole = λ no_memory no_rise. cc (c.in-Err.ensures.sure no_memory (rw c.pieces.invariant.faults no_rise));
}

pub returns-in-Err-clause-once : goal.returns-in-Err-clause-once
returns-in-Err-clause-once g c = subst (λ n. FailsAtMostOnce n (g.K.Sink.faults c.say_all.new.say)) c.pieces.invariant.faults (fails_at_most_once _ _ _ c.in-Err.ensures.cause)

pub returns-clause-text : goal.returns-clause-text
returns-clause-text g c = λ t.
    let pieces = c.args.pieces.now in
    let all = c.pieces.invariant.written t ∙ ap (λ ps. g.K.Sink.written c.args.say.now ++ joined ps) (take_all c.pieces.piece-index pieces (omega arith)) in record {
      prefix = (length (joined pieces), all ∙ ap (λ xs. g.K.Sink.written c.args.say.now ++ xs) (sym (take_all (length (joined pieces)) (joined pieces) (omega arith))));
      whole = λ _ _. all;
    }

pub returns-clause-once : goal.returns-clause-once
returns-clause-once g c = inl c.pieces.invariant.faults
