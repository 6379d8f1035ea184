use Rattle.std.proofs.Common.{◌<◌, ◌==◌, length, arith}
use Rattle.std.proofs.lemmas.List.Sums.{length-filter, count_by-le-length}
use Rattle.std.proofs.lemmas.Result.{on_ok_weaker, on_err_weaker}
use Rattle.spec_tables.specs.Rules.{Rule, rules_in}
use Rattle.staged_lookup.proofs.Results.{on_err_always}
use Rattle.tuple_classifier.proofs.PartLaws.{here}
use Rattle.tuple_classifier.proofs.TablesLaws.{rules_of, inserted, same_but}
use Rattle.tuple_classifier.proofs.by_table.insert_in.Goals as goal

pub returns-in_err-grow-clause-err : goal.returns-in_err-grow-clause-err
returns-in_err-grow-clause-err c = on_err_always c.from_residual.result _ c.grow.ensures.rules

pub insert-requires-clause-new : goal.insert-requires-clause-new
insert-requires-clause-new c i s at =
    c.grow.ensures.numbers c.args.rank.number c.requires.new c.args.table i c.index_mut.result.now s
    (here c.grow.new.tables.items c.args.table c.index_mut.result.now c.in_ok-grow.ensures.there c.index_mut.ensures.value) at

pub insert-requires-clause-few : goal.insert-requires-clause-few
insert-requires-clause-few c =
    let rules = c.requires.few.0 in
    let few = c.requires.few.2 in
    let stood = here c.grow.new.tables.items c.args.table c.index_mut.result.now c.in_ok-grow.ensures.there c.index_mut.ensures.value in
    let of = rules_of c.grow.new.tables.items c.args.table c.index_mut.result.now (rules_in c.args.table rules) stood (c.grow.ensures.rules rules c.requires.few.1 c.args.table) in
    let kept = length-filter (λ (r : Rule). r.table == c.args.table) rules in
    let fewer = count_by-le-length (λ (r : Rule). r.table == c.args.table) rules in
    (rules_in c.args.table rules, of.prefixed, omega (arith, kept, fewer, few))

pub returns-clause-ok : goal.returns-clause-ok
returns-clause-ok c =
    let there : c.args.table < length c.grow.new.tables.items = c.in_ok-grow.ensures.there in
    let stood = here c.grow.new.tables.items c.args.table c.index_mut.result.now there c.index_mut.ensures.value in
    on_ok_weaker c.insert.result (λ inserts rules r are is_table is of_rank.
    let all = c.grow.ensures.rules rules are in
    inserted c.grow.new.tables.items c.args.table c.insert.new.self rules there all r is_table
    (inserts (rules_in c.args.table rules) r (rules_of c.grow.new.tables.items c.args.table c.index_mut.result.now (rules_in c.args.table rules) stood (all c.args.table)) is of_rank)) c.insert.ensures.ok

pub returns-clause-err : goal.returns-clause-err
returns-clause-err c =
    let there : c.args.table < length c.grow.new.tables.items = c.in_ok-grow.ensures.there in
    let stood = here c.grow.new.tables.items c.args.table c.index_mut.result.now there c.index_mut.ensures.value in
    on_err_weaker c.insert.result (λ same_rules rules are.
    let all = c.grow.ensures.rules rules are in
    same_but c.grow.new.tables.items c.args.table c.insert.new.self rules there all
    (same_rules (rules_in c.args.table rules) (rules_of c.grow.new.tables.items c.args.table c.index_mut.result.now (rules_in c.args.table rules) stood (all c.args.table)))) c.insert.ensures.err
