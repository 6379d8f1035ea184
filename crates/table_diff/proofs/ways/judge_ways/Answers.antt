use Rattle.std.proofs.Common.{◌||◌}
use Rattle.std.proofs.lemmas.Bool.{and_parts}
use Rattle.table_diff.proofs.WayLaws.{found_map}
use Rattle.table_diff.proofs.ways.judge_ways.Goals as goal

pub returns : goal.returns
returns c =
    let sure = and_parts (c.args.old.told || c.args.old.fine) (c.args.new.told || c.args.new.fine) c.if-not-old-new.false in
    found_map c.judge_sure.result c.judge_sure.ensures (λ judged found o n ports ho hn. found o n ports ho hn sure.0 sure.1)
