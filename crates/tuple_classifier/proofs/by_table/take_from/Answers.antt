use Rattle.std.proofs.Common.{◌==◌, ◌<◌, length, subst, arith, eq-eqb}
use Rattle.std.proofs.lemmas.Option.{slice_get_past}
use Rattle.spec_tables.specs.Rules.{rules_in}
use Rattle.table_laws.proofs.MemberLaws.{Among, Among_in-filter}
use Rattle.tuple_classifier.proofs.PartLaws.{here}
use Rattle.tuple_classifier.proofs.TableLaws.{distinct_filter}
use Rattle.tuple_classifier.proofs.TablesLaws.{rules_of, rules_of_none, taken}
use Rattle.tuple_classifier.proofs.by_table.take_from.Goals as goal

pub take-requires : goal.take-requires
take-requires c =
    let there : c.args.table < length c.args.tables.now.items = (let l = c.args.tables.now.ok.0 in omega (arith, l)) in
    let stood = here c.args.tables.now.items c.args.table c.index_mut.result.now there c.index_mut.ensures.value in
    let has = c.requires in
    record {
      rules = rules_in c.args.table has.rules;
      rule = has.rule;
      are = rules_of c.args.tables.now.items c.args.table c.index_mut.result.now (rules_in c.args.table has.rules) stood (has.are c.args.table);
      among = Among_in-filter (λ x. x.table == c.args.table) has.rule has.rules has.among (eq-eqb has.rule.table c.args.table has.table_is);
      matching_is = has.matching_is;
      rank_is = has.rank_is;
    }

pub returns-then-table-len : goal.returns-then-table-len
returns-then-table-len c rules r are distinct m is_table is of_rank =
    let there : c.args.table < length c.args.tables.now.items = (let l = c.args.tables.now.ok.0 in omega (arith, l)) in
    let stood = here c.args.tables.now.items c.args.table c.index_mut.result.now there c.index_mut.ensures.value in
    taken c.args.tables.now.items c.args.table c.take.new.self rules there are r distinct m is_table
    (c.take.ensures (rules_in c.args.table rules) r (rules_of c.args.tables.now.items c.args.table c.index_mut.result.now (rules_in c.args.table rules) stood (are c.args.table))
    (distinct_filter (λ x. x.table == c.args.table) rules distinct) (Among_in-filter (λ x. x.table == c.args.table) r rules m (eq-eqb r.table c.args.table is_table)) is of_rank)

pub returns-else-table-len : goal.returns-else-table-len
returns-else-table-len c rules r are distinct m is_table is of_rank =
    let none = rules_of_none c.args.tables.now.items c.args.table (rules_in c.args.table rules) (slice_get_past c.args.tables.now.items c.args.table (let l = c.args.tables.now.ok.0 in omega (arith, l))) (are c.args.table) in
    absurd (subst (λ rs. Among r rs) none (Among_in-filter (λ x. x.table == c.args.table) r rules m (eq-eqb r.table c.args.table is_table)))
