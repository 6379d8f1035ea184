use Rattle.std.proofs.Common.{◌≡◌, ◌-◌, ◌++◌, map}
use Rattle.spec_actions.specs.declared.action.DpAction.TheVariants.{Output}
use Rattle.spec_xlate.specs.Commit.{commit}
use Rattle.spec_xlate.specs.Translation.{rising}
use Rattle.ovs_fields.specs.Packed.{numbers}
use Rattle.pipe_model.specs.Others.{others_from, others_of}
use Rattle.pipe_model.proofs.outputs.append_outputs_but.Given as goal

abbrev pub invariant-numbers : goal.invariant-numbers
invariant-numbers l =
    l.actions ++ map Output (others_from l.in_port l.from (rising l.ports))
    ≡ l.fn.actions ++ (commit (numbers l.base) (numbers l.current) ++ map Output (others_of l.in_port l.ports))

-- the numbers that a port may still have
abbrev pub decreases-numbers : goal.decreases-numbers
decreases-numbers l = 65536 - l.from
