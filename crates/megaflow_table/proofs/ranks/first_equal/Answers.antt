use Rattle.std.proofs.Common.{rules}
use Rattle.megaflow_table.proofs.RankLaws.{has_more, parted, partition-from_clause, first_equal, IsFirstEqual, counts}
use Rattle.megaflow_table.proofs.ranks.first_equal.Goals as goal

pub returns : goal.returns
returns c =
    let es = c.args.subtables.now.entries in
    let hits = c.hits_at-hits.result in
    let halves = partition-from_clause (has_more hits) es c.partition_point.result c.partition_point.ensures.partitioned (parted hits es c.requires.ranked) (λ a r q k. search rules) in
    let there : IsFirstEqual (counts es) c.args.place c.partition_point.result =
    first_equal es c.args.place c.partition_point.result hits c.requires.ranked c.requires.within c.hits_at-hits.ensures c.partition_point.ensures.bound halves in
    record { at_most = there.at_most; before = there.above; equal = there.equal }
