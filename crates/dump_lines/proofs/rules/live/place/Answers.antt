use Rattle.std.proofs.Common.{◌∙◌, refl, sym}
use Rattle.dump_lines.proofs.rules.Added.{live_as, place_is}
use Rattle.dump_lines.proofs.rules.live.place.Goals as goal

pub unreachable-requires : goal.unreachable-requires
unreachable-requires c =
    let none = c.in-None.ensures.none.0 refl in
    let l = live_as c.args.rules.now c.requires.of_edits c.args.number c.requires.live in
    let clash = sym none ∙ l.was in
    cc

pub returns : goal.returns
returns c = place_is c.args.rules.now c.requires.of_edits c.args.number c.requires.live c.in-Some.rule.now c.in-Some.ensures.some
