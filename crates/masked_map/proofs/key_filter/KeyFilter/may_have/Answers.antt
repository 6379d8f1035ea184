use Rattle.std.proofs.Common.{◌==◌, slice_get, sym, ap, ap₂, ◌∙◌, arith}
use Rattle.std.specs.Vec.{vec_len}
use Rattle.std.proofs.lemmas.Nat.Bits.{shr_and_one}
use Rattle.std.proofs.lemmas.Option.{slice_get_past, slice_get_read}
use Rattle.masked_map.specs.Filters.{has_bit, word_of, bit_of}
use Rattle.masked_map.proofs.key_filter.KeyFilter.may_have.Goals as goal

pub returns-then-place-len : goal.returns-then-place-len
returns-then-place-len c =
    let words = c.args.self.now.words in
    let place = c.word_of-place.ensures ∙ ap (λ n. word_of n c.args.mark) c.len.ensures in
    let past = c.if-place-len.true in
    let len = c.len-2.ensures in
    let all = words.ok.0 in
    sym (ap (λ i. has_bit (slice_get words.items i) (bit_of c.args.mark)) (sym place)
    ∙ ap (λ o. has_bit o (bit_of c.args.mark)) (slice_get_past words.items c.word_of-place.result (omega (arith, past, len, all))))

pub returns : goal.returns
returns c =
    let words = c.args.self.now.words in
    let place = c.word_of-place.ensures ∙ ap (λ n. word_of n c.args.mark) c.len.ensures in
    let bit = c.bit_of.ensures.value in
    let within = c.if-place-len.false in
    let len = c.len-2.ensures in
    ap (λ b. b == 1) (shr_and_one c.index.result.now c.bit_of.result)
    ∙ sym (ap₂ (λ i b. has_bit (slice_get words.items i) b) (sym place) (sym bit)
    ∙ ap (λ o. has_bit o c.bit_of.result) (slice_get_read words.items (vec_len words) c.word_of-place.result c.index.result.now words.ok.0 (omega (arith, within, len)) c.index.ensures))
