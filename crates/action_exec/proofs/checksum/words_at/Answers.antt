use Rattle.std.proofs.Common.{◌≡◌, ◌<◌, suc, ◌+◌, length, refl, sym, ◌∙◌, arith, length-set}
use Rattle.std.proofs.lemmas.List.{take_more_set}
use Rattle.action_exec.proofs.Words.{frame_words-snoc, no-words}
use Rattle.action_exec.proofs.checksum.words_at.Goals as goal

pub words-init : goal.words-init
words-init c = record { room = refl; so_far = sym (no-words c.args.frame.now c.args.at) }

pub words-preserved : goal.words-preserved
words-preserved c =
    let so_far = c.words.invariant.so_far in
    let within : c.words.i < length c.words.words = omega arith in
    let one : c.words.i + 1 ≡ suc c.words.i = omega arith in
    let more = take_more_set c.words.words c.words.i c.be16.result within in
    let next = frame_words-snoc c.words.i c.args.frame.now c.args.at in
    record { room = length-set c.words.words c.words.i c.be16.result ∙ c.words.invariant.room; so_far = cc }
