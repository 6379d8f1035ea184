use Rattle.std.proofs.Common.{sym, ap, ◌∙◌}
use Rattle.std.specs.Option.{option_map}
use Rattle.rule_tables.specs.Stored.{stored_in}
use Rattle.rule_tables.proofs.Numbered.{none_at_number, alive_at_number, dead_at_number}
use Rattle.rule_tables.proofs.search.find_live.Goals as goal

pub returns-in_err-stored-clause-rule : goal.returns-in_err-stored-clause-rule
returns-in_err-stored-clause-rule c made =
    ap (option_map (λ s. stored_in made c.args.after s.now)) c.from_residual.ensures
    ∙ none_at_number made c.args.after c.args.number c.args.rules.now c.requires c.in_err-stored.ensures

pub returns-then-is_live-clause-rule : goal.returns-then-is_live-clause-rule
returns-then-is_live-clause-rule c made =
    alive_at_number made c.args.after c.args.number c.args.rules.now c.in_ok-stored.stored.now c.requires c.in_ok-stored.ensures (sym c.is_live.ensures ∙ c.if-is_live.true)

pub returns-else-is_live-clause-rule : goal.returns-else-is_live-clause-rule
returns-else-is_live-clause-rule c made =
    dead_at_number made c.args.after c.args.number c.args.rules.now c.in_ok-stored.stored.now c.requires c.in_ok-stored.ensures (sym c.is_live.ensures ∙ c.if-is_live.false)
