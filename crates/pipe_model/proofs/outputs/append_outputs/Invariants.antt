use Rattle.std.proofs.Common.{◌≡◌, ◌++◌, drop, map}
use Rattle.spec_actions.specs.declared.action.DpAction.TheVariants.{Output}
use Rattle.ovs_fields.specs.Packed.{numbers}
use Rattle.spec_xlate.specs.Commit.{commit}
use Rattle.pipe_model.proofs.outputs.append_outputs.Given as goal

abbrev pub invariant-ports : goal.invariant-ports
invariant-ports l = l.actions ++ map Output (drop l.port-index l.ports) ≡ l.fn.actions ++ (commit (numbers l.base) (numbers l.current) ++ map Output l.ports)
