use Rattle.std.proofs.Common.{sym}
use Rattle.megaflow_table.proofs.RankLaws.{counts_at}
use Rattle.megaflow_table.proofs.ranks.hits_at.Goals as goal

pub returns : goal.returns
returns c = sym (counts_at c.args.subtables.now.entries c.args.place (c.in-Some.field-0-0.now, c.in-Some.subtable.now) (sym c.in-Some.ensures.entry))
