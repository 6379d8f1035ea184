use Rattle.std.proofs.Common.{◌==◌, map, sym, ap, ◌∙◌, arith}
use Rattle.std.specs.Option.{option_map}
use Rattle.std.proofs.lemmas.Option.{slice_get_past}
use Rattle.spec_tables.specs.Rules.{Rule, rules_in, winner}
use Rattle.spec_xlate.specs.Lookup.{added, consults}
use Rattle.ovs_fields.specs.Packed.{numbers, bits}
use Rattle.rule_tables.specs.Bare.{bare}
use Rattle.rule_tables.specs.History.{rules_of}
use Rattle.tuple_classifier.proofs.PartLaws.{here}
use Rattle.tuple_classifier.proofs.Seen.{winner_of_none, consults_of_none, seen_in, none_seen, seen_distinct}
use Rattle.tuple_classifier.proofs.TableLaws.{distinct_filter}
use Rattle.tuple_classifier.proofs.TablesLaws.{rules_of as rules_there, rules_of_none}
use Rattle.tuple_classifier.proofs.tables.Tables.look.Goals as goal

pub returns-then-table-len-clause-winner : goal.returns-then-table-len-clause-winner
returns-then-table-len-clause-winner c =
    let tables = c.self.inside.tables.items in
    let rules = rules_of c.self.inside.store.now c.self.inside.version in
    let stood = here tables c.args.table c.index.result.now (let l = c.self.inside.tables.ok.0 in omega (arith, l)) c.index.ensures in
    let own = seen_in c.index.result.now c.args.table rules (rules_there tables c.args.table c.index.result.now (rules_in c.args.table (map bare rules)) stood (c.self.invariant.classified c.args.table)) in
    c.look.ensures.winner (rules_in c.args.table rules) own (distinct_filter (λ r. r.table == c.args.table) rules (seen_distinct rules c.self.invariant.distinct))
    ∙ ap (λ v. option_map (λ (r : Rule). r.number) (winner (rules_in c.args.table v.rules) (numbers c.args.key.now))) c.self.view_is

pub returns-then-table-len-clause-consulted : goal.returns-then-table-len-clause-consulted
returns-then-table-len-clause-consulted c =
    let tables = c.self.inside.tables.items in
    let rules = rules_of c.self.inside.store.now c.self.inside.version in
    let stood = here tables c.args.table c.index.result.now (let l = c.self.inside.tables.ok.0 in omega (arith, l)) c.index.ensures in
    let own = seen_in c.index.result.now c.args.table rules (rules_there tables c.args.table c.index.result.now (rules_in c.args.table (map bare rules)) stood (c.self.invariant.classified c.args.table)) in
    c.look.ensures.consulted (rules_in c.args.table rules) own (distinct_filter (λ r. r.table == c.args.table) rules (seen_distinct rules c.self.invariant.distinct))
    ∙ ap (λ v. added (bits c.args.consulted.now) (consults (rules_in c.args.table v.rules) (numbers c.args.key.now))) c.self.view_is

pub returns-else-table-len-clause-winner : goal.returns-else-table-len-clause-winner
returns-else-table-len-clause-winner c =
    let tables = c.self.inside.tables.items in
    let rules = rules_of c.self.inside.store.now c.self.inside.version in
    let none = none_seen c.args.table rules
    (rules_of_none tables c.args.table (rules_in c.args.table (map bare rules)) (slice_get_past tables c.args.table (let l = c.self.inside.tables.ok.0 in omega (arith, l))) (c.self.invariant.classified c.args.table)) in
    ap (option_map (λ (r : Rule). r.number)) (sym (ap (λ rs. winner rs (numbers c.args.key.now)) none ∙ winner_of_none (numbers c.args.key.now)))
    ∙ ap (λ v. option_map (λ (r : Rule). r.number) (winner (rules_in c.args.table v.rules) (numbers c.args.key.now))) c.self.view_is

pub returns-else-table-len-clause-consulted : goal.returns-else-table-len-clause-consulted
returns-else-table-len-clause-consulted c =
    let tables = c.self.inside.tables.items in
    let rules = rules_of c.self.inside.store.now c.self.inside.version in
    let none = none_seen c.args.table rules
    (rules_of_none tables c.args.table (rules_in c.args.table (map bare rules)) (slice_get_past tables c.args.table (let l = c.self.inside.tables.ok.0 in omega (arith, l))) (c.self.invariant.classified c.args.table)) in
    ap (added (bits c.args.consulted.now)) (sym (ap (λ rs. consults rs (numbers c.args.key.now)) none ∙ consults_of_none (numbers c.args.key.now)))
    ∙ ap (λ v. added (bits c.args.consulted.now) (consults (rules_in c.args.table v.rules) (numbers c.args.key.now))) c.self.view_is
