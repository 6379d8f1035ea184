use Rattle.std.proofs.Common.{◌≡◌, ◌<◌, length, arith, ap}
use Rattle.std.proofs.lemmas.Bool.Decides.{nat_tests}
use Rattle.spec_flow_text.specs.Items.{Word}
use Rattle.field_text.specs.WordViews.{word_view}
use Rattle.field_text.proofs.WordLists.{no_word, next_of}
use Rattle.field_text.proofs.next_words.next_word.Goals as goal

pub returns-then-is_empty-clause-none : goal.returns-then-is_empty-clause-none
returns-then-is_empty-clause-none g c =
    let none : length c.skipping-begun.result.text.now ≡ 0 = grind (arith, nat_tests) in
    let begun = ap (λ (w : Word). w.text) c.skipping-begun.ensures in
    no_word g.G.Gap.has c.args.stretch.at c.gap_length.result c.args.stretch.text.now c.skipping-begun.result.text.now c.gap_length.ensures.value begun none

pub returns-clause-some : goal.returns-clause-some
returns-clause-some g c =
    let some : 0 < length c.skipping-begun.result.text.now = grind (arith, nat_tests) in
    (next_of g.G.Gap.has (word_view c.args.stretch) (word_view c.skipping-begun.result) (word_view c.first.result) (word_view c.skipping.result)
    c.gap_length.result c.word_length-length.result c.gap_length.ensures.value c.skipping-begun.ensures c.word_length-length.ensures.value some c.first.ensures c.skipping.ensures).0

pub returns-clause-shorter : goal.returns-clause-shorter
returns-clause-shorter g c =
    let some : 0 < length c.skipping-begun.result.text.now = grind (arith, nat_tests) in
    (next_of g.G.Gap.has (word_view c.args.stretch) (word_view c.skipping-begun.result) (word_view c.first.result) (word_view c.skipping.result)
    c.gap_length.result c.word_length-length.result c.gap_length.ensures.value c.skipping-begun.ensures c.word_length-length.ensures.value some c.first.ensures c.skipping.ensures).1
