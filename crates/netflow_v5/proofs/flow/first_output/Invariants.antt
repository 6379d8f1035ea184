use Rattle.std.proofs.Common.{◌≡◌, drop}
use Rattle.spec_netflow.specs.Flows.{first_output}
use Rattle.netflow_v5.proofs.flow.first_output.Given as goal

abbrev pub invariant-actions : goal.invariant-actions
invariant-actions l = first_output (drop l.action-index l.actions) ≡ first_output l.actions
