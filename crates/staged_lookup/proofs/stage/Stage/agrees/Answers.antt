use Rattle.ovs_fields.specs.Packed.{numbers}
use Rattle.staged_lookup.proofs.StageLaws.{stage_agrees}
use Rattle.staged_lookup.proofs.stage.Stage.agrees.Goals as goal

pub returns : goal.returns
returns c before part mask rs is tested = stage_agrees c.args.self.now before part mask (numbers c.args.key.now.key.now) rs c.count_of_packet.result is tested c.count_of_packet.ensures
