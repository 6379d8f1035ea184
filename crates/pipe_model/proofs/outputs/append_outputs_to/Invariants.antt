use Rattle.std.proofs.Common.{◌≡◌, ◌==◌, ◌++◌, drop, filter, map}
use Rattle.spec_actions.specs.declared.action.DpAction.TheVariants.{Output}
use Rattle.pipe_model.proofs.outputs.append_outputs_to.Given as goal

abbrev pub invariant-ports : goal.invariant-ports
invariant-ports l = l.actions ++ map Output (filter (λ p. p == l.number) (drop l.port-index l.ports)) ≡ l.fn.actions ++ map Output (filter (λ p. p == l.number) l.ports)
