use Rattle.std.proofs.Common.{◌<◌, length, arith}
use Rattle.indexmap.specs.IndexMap.{index_map_len}
use Rattle.tuple_classifier.proofs.KeptLaws.{length-ranked, ranked_at}
use Rattle.tuple_classifier.proofs.PartLaws.{here}
use Rattle.tuple_classifier.proofs.PlacedLaws.{order_within, place_within}
use Rattle.tuple_classifier.proofs.subtables.Subtables.at.Goals as goal

pub index-requires : goal.index-requires
index-requires c =
    let s = c.args.self.now in
    let all = length-ranked s in
    let l = s.order.ok.0 in
    let within = c.requires in
    omega (arith, all, l, within)

pub index-requires-2 : goal.index-requires-2
index-requires-2 c =
    let s = c.args.self.now in
    let inside : c.args.index < length s.order.items = (let all = length-ranked s in let within = c.requires in omega (arith, all, within)) in
    let n = index_map_len s.by_mask in
    place_within n s.order.items (order_within n s.order.items s.placed) c.args.index c.index.result.now (here s.order.items c.args.index c.index.result.now inside c.index.ensures)

pub returns : goal.returns
returns c =
    let s = c.args.self.now in
    let inside : c.args.index < length s.order.items = (let all = length-ranked s in let within = c.requires in omega (arith, all, within)) in
    ranked_at s c.args.index c.index.result.now c.index-2.result.now (here s.order.items c.args.index c.index.result.now inside c.index.ensures) c.index-2.ensures
