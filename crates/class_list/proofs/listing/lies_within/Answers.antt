use Rattle.std.proofs.Common.{sym, ◌∙◌}
use Rattle.std.proofs.lemmas.Bool.{and_parts}
use Rattle.class_list.proofs.SaidLaws.{told_alike}
use Rattle.class_list.proofs.listing.lies_within.Goals as goal

pub returns : goal.returns
returns c is key h =
    let parts = and_parts c.tells.result c.has.result is in
    told_alike c.args.cube.now c.args.other.now (sym c.tells.ensures ∙ parts.0) key h ∙ sym c.has.ensures ∙ parts.1
