use Rattle.std.proofs.Common.{◌≡◌, ◌<◌, Some, length, slice_get, refl, sym, ap, ap₂, ◌∙◌, arith}
use Rattle.std.specs.Vec.{vec_len}
use Rattle.std.proofs.lemmas.Option.{slice_get_past, slice_get_read}
use Rattle.masked_map.specs.Filters.{has_bit, word_of, bit_of}
use Rattle.masked_map.proofs.FilterLaws.{bit_set, bits_kept, more}
use Rattle.masked_map.proofs.key_filter.KeyFilter.add.Goals as goal

pub returns-then-place-len-clause-marked : goal.returns-then-place-len-clause-marked
returns-then-place-len-clause-marked c =
    let words = c.args.self.now.words in
    let word = c.index-word.result.now in
    let place = c.word_of-place.ensures ∙ ap (λ n. word_of n c.args.mark) c.len.ensures in
    let bit = c.bit_of.ensures.value in
    let lt = c.if-place-len.true in
    let len = c.len-2.ensures in
    let all = words.ok.0 in
    let within : c.word_of-place.result < length words.items = omega (arith, lt, len, all) in
    let there : slice_get words.items c.word_of-place.result ≡ Some word = slice_get_read words.items (length words.items) c.word_of-place.result word refl within c.index-word.ensures in
    ap₂ (λ i b. has_bit (slice_get (more words.items c.word_of-place.result word c.bit_of.result there c.bit_of.ensures.within) i) b) (sym place) (sym bit)
    ∙ bit_set words.items c.word_of-place.result word c.bit_of.result there c.bit_of.ensures.within within

pub returns-then-place-len-clause-keeps : goal.returns-then-place-len-clause-keeps
returns-then-place-len-clause-keeps c other was =
    let words = c.args.self.now.words in
    let word = c.index-word.result.now in
    let lt = c.if-place-len.true in
    let len = c.len-2.ensures in
    let all = words.ok.0 in
    let within : c.word_of-place.result < length words.items = omega (arith, lt, len, all) in
    let there : slice_get words.items c.word_of-place.result ≡ Some word = slice_get_read words.items (length words.items) c.word_of-place.result word refl within c.index-word.ensures in
    bits_kept words.items c.word_of-place.result word c.bit_of.result there c.bit_of.ensures.within within (word_of (vec_len words) other) (bit_of other) was

pub returns-else-place-len-clause-marked : goal.returns-else-place-len-clause-marked
returns-else-place-len-clause-marked c =
    let words = c.args.self.now.words in
    let place = c.word_of-place.ensures ∙ ap (λ n. word_of n c.args.mark) c.len.ensures in
    let past = c.if-place-len.false in
    let len = c.len-2.ensures in
    let all = words.ok.0 in
    ap (λ i. has_bit (slice_get words.items i) (bit_of c.args.mark)) (sym place)
    ∙ ap (λ o. has_bit o (bit_of c.args.mark)) (slice_get_past words.items c.word_of-place.result (omega (arith, past, len, all)))
