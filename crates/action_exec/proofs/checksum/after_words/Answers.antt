use Rattle.std.proofs.Common.{sym, ◌∙◌, arith}
use Rattle.action_exec.specs.Placed.{zero_of}
use Rattle.action_exec.proofs.Words.{after_list-next, after_list-end}
use Rattle.action_exec.proofs.checksum.after_words.Goals as goal

pub words-preserved : goal.words-preserved
words-preserved c =
    let next = after_list-next (zero_of c.args.zero_says) c.args.words.now c.words.at c.args.frame.now c.words.sum c.words.from-index c.words-test.true in
    record { reached = omega arith; so_far = cc }

pub returns : goal.returns
returns c =
    let last = after_list-end (zero_of c.args.zero_says) c.args.words.now c.words.at c.args.frame.now c.words.sum c.words.from-index (omega arith) in
    sym last ∙ c.words.invariant.so_far
