use Rattle.std.proofs.Common.{refl, arith}
use Rattle.tuple_classifier.proofs.CountedLaws.{entry_before, is_beyond}
use Rattle.tuple_classifier.proofs.sorted.place_of.Goals as goal

pub overflow_sub-result : goal.overflow_sub-result
overflow_sub-result c =
    let is = is_beyond c.args.number c.args.items.now c.args.items.now c.first_beyond.result refl c.first_beyond.ensures.within c.first_beyond.ensures.up_to c.first_beyond.ensures.beyond in
    let some = (entry_before c.args.number c.args.items.now c.first_beyond.result is c.requires.rising c.requires.counted c.requires.there).0 in
    omega (arith, some)

pub returns-clause-within : goal.returns-clause-within
returns-clause-within c =
    let is = is_beyond c.args.number c.args.items.now c.args.items.now c.first_beyond.result refl c.first_beyond.ensures.within c.first_beyond.ensures.up_to c.first_beyond.ensures.beyond in
    (entry_before c.args.number c.args.items.now c.first_beyond.result is c.requires.rising c.requires.counted c.requires.there).1

pub returns-clause-number : goal.returns-clause-number
returns-clause-number c =
    let is = is_beyond c.args.number c.args.items.now c.args.items.now c.first_beyond.result refl c.first_beyond.ensures.within c.first_beyond.ensures.up_to c.first_beyond.ensures.beyond in
    (entry_before c.args.number c.args.items.now c.first_beyond.result is c.requires.rising c.requires.counted c.requires.there).2
