use Rattle.ovs_fields.specs.Packed.{numbers}
use Rattle.staged_lookup.proofs.ProbeLaws.{step_tested}
use Rattle.staged_lookup.proofs.stage.Stage.step.Goals as goal

pub returns-in-Tested : goal.returns-in-Tested
returns-in-Tested c before part mask rs is =
    step_tested c.tested.result c.agrees.result before part mask (numbers c.args.key.now.key.now) rs c.tested.ensures.passes c.tested.ensures.ends c.tested.ensures.tells (c.agrees.ensures before part mask rs is c.in-Tested.is)
