use Rattle.std.proofs.Common.{sym, ◌∙◌, subst}
use Rattle.std.specs.Prelude.{List, IsPermutation}
use Rattle.spec_tables.specs.Rules.{Rule}
use Rattle.rule_tables.specs.Bare.{apart_from}
use Rattle.rule_tables.specs.Changes.{came_at, went_at}
use Rattle.rule_tables.specs.Stored.{rules_at}
use Rattle.rule_tables.proofs.Between.{keys_rise}
use Rattle.rule_tables.proofs.Changing.{told-map, came_are, went_are}
use Rattle.rule_tables.proofs.changes.Change.between.Goals as goal

pub ended_between-requires : goal.ended_between-requires
ended_between-requires c = keys_rise (λ e. e.edit) c.args.ends.now c.requires.ends.1.rising

pub returns-clause-came : goal.returns-clause-came
returns-clause-came c made =
    told-map (came_at c.args.after) c.added_between.result.now
    ∙ came_are made c.args.rules.now c.added_between.result.now c.requires.in_order c.args.before c.args.after c.requires.order c.added_between.ensures

pub returns-clause-went : goal.returns-clause-went
returns-clause-went c made =
    subst (λ (rules : List Rule). IsPermutation (apart_from (rules_at made c.args.after c.args.rules.now) (rules_at made c.args.before c.args.rules.now)) rules)
    (sym (told-map (went_at c.args.rules.now c.args.before) c.ended_between.result.now))
    (went_are made c.args.rules.now c.requires.in_order c.args.ends.now c.ended_between.result.now c.requires.ends.0 c.args.before c.args.after c.requires.order c.requires.ends.1 c.ended_between.ensures)
