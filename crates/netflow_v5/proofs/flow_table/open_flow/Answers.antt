use Rattle.std.proofs.Common.{sym, ◌∙◌}
use Rattle.netflow_v5.proofs.OpenFlows.{joins, none_open, full}
use Rattle.netflow_v5.proofs.flow_table.open_flow.Goals as goal

pub returns-in-Some : goal.returns-in-Some
returns-in-Some c = joins c.args.flows.now c.args.packet.now c.in-Some.at c.in-Some.ensures.within (sym c.in-Some.ensures.newest) _ (sym c.has_room.ensures ∙ c.if-has_room.true)

pub returns-in_default : goal.returns-in_default
returns-in_default c = full c.args.flows.now c.args.packet.now c.in-Some.at c.in-Some.ensures.within (sym c.in-Some.ensures.newest) _ (sym c.has_room.ensures ∙ c.if-has_room.false)

pub returns-in_default-2 : goal.returns-in_default-2
returns-in_default-2 c = none_open c.args.flows.now c.args.packet.now (sym c.newest_of.ensures.newest ∙ c.in_default.is)
