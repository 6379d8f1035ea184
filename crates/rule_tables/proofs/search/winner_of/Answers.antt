use Rattle.std.proofs.Common.{sym, ◌∙◌, arith}
use Rattle.ovs_fields.specs.Packed.{numbers}
use Rattle.rule_tables.proofs.Winners.{winner_past, candidate_wins, others_stay}
use Rattle.rule_tables.proofs.search.winner_of.Goals as goal

pub rules-init : goal.rules-init
rules-init c made = winner_past made c.args.after c.args.table (numbers c.args.key.now) c.args.rules.now

pub rules-preserved-then-is_candidate : goal.rules-preserved-then-is_candidate
rules-preserved-then-is_candidate c made =
    candidate_wins made c.args.after c.args.table (numbers c.args.key.now) c.args.rules.now c.rules.i _ _ _ (omega arith) (omega arith) c.index-rules-i.is
    (sym c.is_candidate.ensures ∙ c.if-is_candidate.true) (c.rules.invariant made) (c.better_of.ensures made c.args.after)

pub rules-preserved : goal.rules-preserved
rules-preserved c made =
    others_stay made c.args.after c.args.table (numbers c.args.key.now) c.args.rules.now c.rules.i _ _ (omega arith) (omega arith) c.index-rules-i.is
    (sym c.is_candidate.ensures ∙ c.if-is_candidate.false) (c.rules.invariant made)
