use Rattle.switch_output.proofs.Written.{one_in_turn}
use Rattle.switch_output.proofs.writing.write_flows.Goals as goal

pub returns-then-netflow : goal.returns-then-netflow
returns-then-netflow g c = rw c.if-netflow.true (one_in_turn g.S.Shelf _ _ _ _ c.write_one.ensures)
