use Rattle.std.proofs.Common.{arith}
use Rattle.std.proofs.lemmas.Option.{slice_get_within}
use Rattle.tuple_classifier.proofs.PartLaws.{place_among}
use Rattle.tuple_classifier.proofs.Times.{stood}
use Rattle.tuple_classifier.proofs.order.position_of.Goals as goal

pub unreachable-requires : goal.unreachable-requires
unreachable-requires c =
    let at = place_among c.args.place c.args.order.now (stood c.args.place c.args.order.now c.requires) in
    let within = slice_get_within c.args.order.now at.0 c.args.place at.1 in
    let past = c.places-test.false in
    c.places.invariant at.0 (omega (arith, within, past)) at.1
